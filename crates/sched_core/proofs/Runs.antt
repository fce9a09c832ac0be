-- A run of gifts: what a gift leaves of the choice, and the choices one after another.
use Rattle.std.proofs.Common.{◌≡◌, ◌≢◌, ◌↔◌, ℕ, ◌<◌, ◌≤◌, ◌+◌, Bool, true, false, cond, not, nat_lt, ◌&&◌, ◌||◌, ◌==◌, List, [], ◌∷◌, ◌++◌, length, filter, set, get_or, All, Contains, inl, inr, ⊎_elim, refl, sym, ap, ◌∙◌, subst, append_assoc, append-nil, arith}
use Rattle.std.proofs.lemmas.Bool.{cases_eq, eq-eqb, false≢true, lt-ltb, ne_eqb}
use Rattle.std.proofs.lemmas.Grind.{get_or-set_at}
use Rattle.std.proofs.lemmas.List.{get_or-set_other, get_or-set_same, length-append, map_push, set-get_or}
use Rattle.std.proofs.lemmas.List.Elements.{All-head, All-tail, All-contains, All-contains_itself, All-filter}
use Rattle.lists.proofs.Lists.{All-front}
use Rattle.evt_types.specs.Place.{Place}
use Rattle.evt_types.specs.Plan.{Plan, depth_of, level_of, queue_of, is_ordered}
use Rattle.evt_types.specs.declared.event.Delivery.{Delivery}
use Rattle.evt_types.specs.declared.event.Numbered.{Numbered}
use Rattle.evt_types.specs.declared.step.Step.{Step}
use Rattle.evt_types.specs.declared.step.Step.TheVariants.{Give}
use Rattle.sched_core.proofs.Offers.{IsOfferAt, choice_is_offer, not_earlier}
use Rattle.sched_core.specs.Offered.{AreOpenLanes, FitsSlot, HasAllowed, HasPlace, IsOfferIn, IsOpenLane, numbered_in}
use Rattle.sched_core.specs.Sized.{IsSized}
use Rattle.sched_core.specs.declared.offer.Offer.{Offer}
use Rattle.sched_core.specs.Runs.{AreChoices, AreGiven, HasLeft, HasTurn, IsSteady, gift_of, gifts_of, given_once, given_times}
use Rattle.small_set.specs.SmallSets.{Has}
use Rattle.small_set.specs.declared.set.SmallSet.{SmallSet}
use Rattle.step_log.specs.Gives.{gives_of}
use Rattle.transcripts.proofs.WholeStands.{stands_give}
use Rattle.transcripts.specs.Choice.{Passed, Fits, HasNoOther, HasNone, HasQuota, IsChoice, IsOffer, IsServedBefore, WaitsIn}
use Rattle.transcripts.specs.Standing.{View, Stands, after, after_give, event_in, places_at, slot_in, unanswered_at, waiting_at}
use Rattle.transcripts.specs.Transcript.{Held}

-- a gift takes room for one step of the log, and counts one toward the quantum
pub room_given : (gs hs : List ℕ) (i q n m s t room left : ℕ) → q < n → n ≤ m → length gs ≡ m → i ≡ q → s ≤ room + get_or gs q 0 → room ≤ left + 1 → hs ≡ set gs i (get_or gs i 0 + 1) → t ≡ s → t ≤ left + get_or hs i 0
room_given gs hs i q n m s t room left there few long is enough less counted same =
    let here : get_or gs i 0 ≡ get_or gs q 0 = ap (λ k. get_or gs k 0) is in
    let now : get_or hs i 0 ≡ get_or gs i 0 + 1 = ap (λ xs. get_or xs i 0) counted ∙ get_or-set_same gs i (get_or gs i 0 + 1) 0 (omega (arith, there, few, long, is)) in
    omega (arith, enough, less, same, here, now)

-- ---- what waits, is out and has a place once an event is given

-- what is in a part of a list is in the list
less_contains : {X : Type 0} (p : X → Bool) (xs : List X) (x : X) → Contains (filter p xs) x → Contains xs x
less_contains p xs x has = All-contains (Contains xs) (filter p xs) x (All-filter p (Contains xs) xs (All-contains_itself xs)) has

-- of these lanes those are open to the queue that have room
abbrev pub AreServing : View → Passed → ℕ → SmallSet → Type 0
AreServing v s q lanes = (l : ℕ) → IsOpenLane v s q l ↔ (Has lanes l × (length (unanswered_at v l) < depth_of v.shape l))

module _ (v : View) (s : Passed) (l q : ℕ) (w : Numbered) (sized : IsSized v) (offer : IsOffer v l q w) where
  waits_before : (r : ℕ) (u : Numbered) → WaitsIn (after_give v l q w.number) r u → WaitsIn v r u
  waits_before r u waits = ⊎_elim here other (cases_eq r q)
    where
      here : r ≡ q → WaitsIn v r u
      here same =
          subst (λ k. WaitsIn v k u) (sym same)
          (less_contains (λ (x : Numbered). not (x.number == w.number)) (waiting_at v q) u
          (subst (λ ws. Contains ws u) (get_or-set_at v.waiting q r (filter (λ (x : Numbered). not (x.number == w.number)) (waiting_at v q)) [] same (omega (arith, sized.waiting, offer.queue))) waits))

      other : r ≢ q → WaitsIn v r u
      other differs = subst (λ ws. Contains ws u) (get_or-set_other v.waiting q r (filter (λ (x : Numbered). not (x.number == w.number)) (waiting_at v q)) [] differs) waits

  -- what is out at a lane is out still
  still_out : (m : ℕ) → (ys : List Held) × (unanswered_at (after_give v l q w.number) m ≡ unanswered_at v m ++ ys)
  still_out m = ⊎_elim here other (cases_eq m l)
    where
      held : Held
      held = record { queue = q; number = w.number; slot = slot_in v q (event_in (waiting_at v q) w.number) }

      here : m ≡ l → (ys : List Held) × (unanswered_at (after_give v l q w.number) m ≡ unanswered_at v m ++ ys)
      here same = (
        held ∷ [],
        get_or-set_at v.unanswered l m (unanswered_at v l ++ held ∷ []) [] same (omega (arith, sized.unanswered, offer.lane))
            ∙ ap (λ k. unanswered_at v k ++ held ∷ []) (sym same),
      )

      other : m ≢ l → (ys : List Held) × (unanswered_at (after_give v l q w.number) m ≡ unanswered_at v m ++ ys)
      other differs = ([], get_or-set_other v.unanswered l m (unanswered_at v l ++ held ∷ []) [] differs ∙ sym (append-nil (unanswered_at v m)))

  more_out : (m : ℕ) → length (unanswered_at v m) ≤ length (unanswered_at (after_give v l q w.number) m)
  more_out m = let more = still_out m in omega (arith, ap length more.1, length-append (unanswered_at v m) more.0)

  none_other : (m r slot : ℕ) → HasNoOther (after_give v l q w.number) m r slot → HasNoOther v m r slot
  none_other m r slot none k differs =
      let more = still_out k in
      All-front (λ (y : Held). y.queue ≡ r → y.slot ≢ slot) (unanswered_at v k) more.0 (subst (All (λ (y : Held). y.queue ≡ r → y.slot ≢ slot)) more.1 (none k differs))

  more_places : (r : ℕ) → length (places_at v r) ≤ length (places_at (after_give v l q w.number) r)
  more_places r = by_kind (is_ordered (queue_of v.shape q).kind)
    where
      place : Place
      place = record { number = w.number; answered = false; forwards = [] }

      longer : length (places_at v r) ≤ length (get_or (set v.places q (places_at v q ++ place ∷ [])) r [])
      longer =
          ⊎_elim
          (λ same. omega (
            arith,
            ap length (get_or-set_at v.places q r (places_at v q ++ place ∷ []) [] same (omega (arith, sized.places, offer.queue))),
            ap (λ k. length (places_at v k)) same,
            length-append (places_at v q) (place ∷ []),
          ))
          (λ differs. omega (arith, ap length (get_or-set_other v.places q r (places_at v q ++ place ∷ []) [] differs)))
          (cases_eq r q)

      by_kind : (b : Bool) → length (places_at v r) ≤ length (get_or (cond b (set v.places q (places_at v q ++ place ∷ [])) v.places) r [])
      by_kind true = longer
      by_kind false = omega arith

  -- a lane that fits a slot then did so before
  slot_before : (m r slot : ℕ) → FitsSlot (after_give v l q w.number) (given_once s q) r slot m → FitsSlot v s r slot m
  slot_before m r slot fits =
      let fewer = more_out m in
      let room = fits.room in
      record {
        lane = fits.lane;
        ready = fits.ready;
        linked = fits.linked;
        room = omega arith;
        alone = λ atomic. none_other m r slot (fits.alone atomic);
        places = λ ordered. let less = more_places r in let has = fits.places ordered in omega arith;
      }

  -- a lane that fits an event then did so before
  fits_before : (m r : ℕ) (u : Numbered) → Fits (after_give v l q w.number) (given_once s q) m r u → Fits v s m r u
  fits_before m r u fits =
      let fewer = more_out m in
      let room = fits.room in
      record {
        lane = fits.lane;
        ready = fits.ready;
        linked = fits.linked;
        room = omega arith;
        alone = λ atomic. none_other m r _ (fits.alone atomic);
        places = λ ordered. let less = more_places r in let has = fits.places ordered in omega arith;
      }

  -- one event more is out at the lane alone, and has a place in the queue alone
  out_one : length (unanswered_at (after_give v l q w.number) l) ≡ length (unanswered_at v l) + 1
  out_one =
      let held : Held = record { queue = q; number = w.number; slot = slot_in v q (event_in (waiting_at v q) w.number) } in
      omega (
        arith,
        ap length (get_or-set_at v.unanswered l l (unanswered_at v l ++ held ∷ []) [] refl (omega (arith, sized.unanswered, offer.lane))),
        length-append (unanswered_at v l) (held ∷ []),
      )

  out_other : (m : ℕ) → m ≢ l → length (unanswered_at (after_give v l q w.number) m) ≡ length (unanswered_at v m)
  out_other m differs =
      let held : Held = record { queue = q; number = w.number; slot = slot_in v q (event_in (waiting_at v q) w.number) } in
      ap length (get_or-set_other v.unanswered l m (unanswered_at v l ++ held ∷ []) [] differs)

  place_one : length (places_at (after_give v l q w.number) q) ≤ length (places_at v q) + 1
  place_one = by_kind (is_ordered (queue_of v.shape q).kind)
    where
      place : Place
      place = record { number = w.number; answered = false; forwards = [] }

      by_kind : (b : Bool) → length (get_or (cond b (set v.places q (places_at v q ++ place ∷ [])) v.places) q []) ≤ length (places_at v q) + 1
      by_kind true =
          omega (
            arith,
            ap length (get_or-set_at v.places q q (places_at v q ++ place ∷ []) [] refl (omega (arith, sized.places, offer.queue))),
            length-append (places_at v q) (place ∷ []),
          )
      by_kind false = omega arith

  -- one event fewer is left
  left_after : (more : ℕ) → q < length s.given → HasLeft v s q (more + 1) → HasLeft (after_give v l q w.number) (given_once s q) q more
  left_after more within left =
      record {
        quota = let quota = left.quota in omega (arith, get_or-set_at s.given q q (get_or s.given q 0 + 1) 0 refl within);
        places = λ ordered. let places = left.places ordered in let one = place_one in omega arith;
      }

  -- while no count is full, the same lanes are open
  steady_after : (more : ℕ) (lanes : SmallSet) → q < length s.given → IsSteady v s l q (more + 1) lanes → IsSteady (after_give v l q w.number) (given_once s q) l q more lanes
  steady_after more lanes within steady =
      record {
        quota = let quota = steady.quota in omega (arith, get_or-set_at s.given q q (get_or s.given q 0 + 1) 0 refl within);
        opened = λ some m. (
          λ has. opened some m ((steady.opened (omega arith) m).0 has),
          λ is. (steady.opened (omega arith) m).1 (record {
            lane = is.lane;
            ready = is.ready;
            linked = is.linked;
            room = let fewer = more_out m in let room = is.room in omega arith;
            places = λ ordered. let less = more_places q in let has = is.places ordered in omega arith;
          }),
        );
        room = let room = steady.room in let one = out_one in omega arith;
        places = λ ordered. let places = steady.places ordered in let one = place_one in omega arith;
      }
    where
      opened : 0 < more → (m : ℕ) → IsOpenLane v s q m → IsOpenLane (after_give v l q w.number) (given_once s q) q m
      opened some m is =
          record {
            lane = is.lane;
            ready = is.ready;
            linked = is.linked;
            room =
                ⊎_elim
                (λ e. let one = out_one in let room = steady.room in subst (λ k. length (unanswered_at (after_give v l q w.number) k) < depth_of v.shape k) (sym e) (omega (arith, some)))
                (λ ne. let room = is.room in omega (arith, out_other m ne)) (cases_eq m l);
            places = λ ordered. let one = place_one in let places = steady.places ordered in omega (arith, some);
          }

  -- where the queue has a place more and the lane of the gift has room, the same lanes are open
  open_after : (lanes : SmallSet) → AreOpenLanes v s q lanes → HasPlace (after_give v l q w.number) q → length (unanswered_at (after_give v l q w.number) l) < depth_of v.shape l → AreOpenLanes (after_give v l q w.number) (given_once s q) q lanes
  open_after lanes are place room m = (
    λ has. opened ((are m).0 has),
    λ is. (are m).1 (record {
      lane = is.lane;
      ready = is.ready;
      linked = is.linked;
      room = let fewer = more_out m in let room = is.room in omega arith;
      places = λ ordered. let less = more_places q in let has = is.places ordered in omega arith;
    }),
  )
    where
      opened : IsOpenLane v s q m → IsOpenLane (after_give v l q w.number) (given_once s q) q m
      opened is =
          record {
            lane = is.lane;
            ready = is.ready;
            linked = is.linked;
            room = ⊎_elim (λ e. subst (λ k. length (unanswered_at (after_give v l q w.number) k) < depth_of v.shape k) (sym e) room) (λ ne. let room = is.room in omega (arith, out_other m ne)) (cases_eq m l);
            places = place;
          }

  -- where the queue has a place more, those of the lanes are open that have room
  serving_after : (lanes : SmallSet) → AreServing v s q lanes → HasPlace (after_give v l q w.number) q → AreServing (after_give v l q w.number) (given_once s q) q lanes
  serving_after lanes are place m = (
    λ is. (((are m).0 (before is)).0, is.room),
    λ both. opened ((are m).1 (both.0, less both.1)) both.1,
  )
    where
      less : length (unanswered_at (after_give v l q w.number) m) < depth_of v.shape m → length (unanswered_at v m) < depth_of v.shape m
      less room = let fewer = more_out m in omega arith

      before : IsOpenLane (after_give v l q w.number) (given_once s q) q m → IsOpenLane v s q m
      before is =
          record {
            lane = is.lane;
            ready = is.ready;
            linked = is.linked;
            room = less is.room;
            places = λ ordered. let fewer = more_places q in let has = is.places ordered in omega arith;
          }

      opened : IsOpenLane v s q m → length (unanswered_at (after_give v l q w.number) m) < depth_of v.shape m → IsOpenLane (after_give v l q w.number) (given_once s q) q m
      opened is room = record { lane = is.lane; ready = is.ready; linked = is.linked; room = room; places = place }

  none_after : (r : ℕ) → HasNone v s r → HasNone (after_give v l q w.number) (given_once s q) r
  none_after r none u waits m fits = none u (waits_before r u waits) m (fits_before m r u fits)

-- ---- the turn of a queue and level

-- a choice is made at its queue's and level's turn
pub turn_of : (v : View) (s : Passed) (l q c : ℕ) (w : Numbered) → IsChoice v s l q w → c ≡ level_of w.event → HasTurn v s q c
turn_of v s l q c w choice level =
    record {
      there = choice.there;
      lower = λ u m waits under fits.
          false≢true (sym (choice.event u m waits fits)
          ∙ ap (λ b. b || ((level_of u.event == level_of w.event) && nat_lt u.number w.number)) (lt-ltb (level_of u.event) (level_of w.event) (omega (arith, level, under))));
      before = choice.queue;
    }

served_differs : (p : Plan) (r q : ℕ) → IsServedBefore p r q → r ≢ q
served_differs p r q (inl first) same = let e = ap (λ k. (queue_of p k).priority) same in omega arith
served_differs p r q (inr both) same = let lt = both.1 in omega arith

-- what the choice was of is at its turn still
pub turn_after : (v : View) (s : Passed) (l q c : ℕ) (w : Numbered) → IsSized v → IsOffer v l q w → HasTurn v s q c → HasTurn (after_give v l q w.number) (given_once s q) q c
turn_after v s l q c w sized offer turn =
    record {
      there = turn.there;
      lower = λ u m waits under fits. turn.lower u m (waits_before v s l q w sized offer q u waits) under (fits_before v s l q w sized offer m q u fits);
      before = λ r there quota first.
          none_after v s l q w sized offer r
          (turn.before r there (subst (λ n. n < v.shape.sweep) (get_or-set_other s.given q r (get_or s.given q 0 + 1) 0 (served_differs v.shape r q first)) quota) first);
    }

-- at its turn the level's first event that a lane may take is the choice
pub choice_in_turn : (v : View) (s : Passed) (l q c : ℕ) (w : Numbered) → HasTurn v s q c → HasQuota v s q → IsOfferIn v s q c l w → IsChoice v s l q w
choice_in_turn v s l q c w turn quota offer =
    record {
      there = turn.there;
      quota = quota;
      waits = offer.waits;
      fits = offer.fits;
      lane = offer.best;
      event = not_earlier v s q c l w offer turn.lower;
      queue = turn.before;
    }

-- so is its offer
pub made_in_turn : (v : View) (s : Passed) (q c : ℕ) (y : Offer) → HasTurn v s q c → HasQuota v s q → IsOfferAt v s q c y → IsChoice v s y.lane y.delivery.queue (numbered_in y.delivery)
made_in_turn v s q c y turn quota made = subst (λ n. IsChoice v s y.lane n (numbered_in y.delivery)) (sym made.0) (choice_in_turn v s y.lane q c (numbered_in y.delivery) turn quota made.1)

-- ---- choices one after another

pub choices_push : (l : ℕ) (v : View) (s : Passed) (ds : List Delivery) (w : View) (t : Passed) (d : Delivery) → AreChoices l v s ds w t → IsChoice w t l d.queue (numbered_in d)
    → AreChoices l v s (ds ++ d ∷ []) (after w (gift_of l d ∷ [])) (given_once t d.queue)
choices_push l v s [] w t d h choice = (
  subst (λ x. IsChoice x s l d.queue (numbered_in d)) h.0 (subst (λ x. IsChoice w x l d.queue (numbered_in d)) h.1 choice),
  (ap (λ x. after x (gift_of l d ∷ [])) h.0, ap (λ x. given_once x d.queue) h.1),
)
choices_push l v s (e ∷ ds) w t d h choice = (h.0, choices_push l (after v (gift_of l e ∷ [])) (given_once s e.queue) ds w t d h.1 choice)

pub choices_stand : (l : ℕ) (v : View) (s : Passed) (ds : List Delivery) (w : View) (t : Passed) (T : List Step) → AreChoices l v s ds w t → Stands T v → Stands (T ++ gifts_of l ds) w
choices_stand l v s [] w t T h stands = subst (Stands (T ++ [])) (sym h.0) (subst (λ U. Stands U v) (sym (append-nil T)) stands)
choices_stand l v s (d ∷ ds) w t T h stands =
    subst (λ U. Stands U w) (append_assoc T (gift_of l d ∷ []) (gifts_of l ds))
    (choices_stand l (after v (gift_of l d ∷ [])) (given_once s d.queue) ds w t (T ++ gift_of l d ∷ []) h.1
    (stands_give v T l d.queue (numbered_in d) stands (choice_is_offer v s l d.queue (numbered_in d) h.0)))

-- and their steps
pub gifts_push : (l : ℕ) (before log longer : List Step) (ds es : List Delivery) (d : Delivery) → log ≡ before ++ gifts_of l ds → longer ≡ log ++ gift_of l d ∷ [] → es ≡ ds ++ d ∷ [] → longer ≡ before ++ gifts_of l es
gifts_push l before log longer ds es d is push more =
    push
    ∙ (ap (λ xs. xs ++ gift_of l d ∷ []) is
    ∙ (append_assoc before (gifts_of l ds) (gift_of l d ∷ []) ∙ ap (λ xs. before ++ xs) (sym (ap (gifts_of l) more ∙ map_push (gift_of l) ds d))))

-- ---- a run

-- an event of the queue, as it is given and as it is delivered
pub gift_is : (l q : ℕ) (u : Numbered) (d : Delivery) → d.queue ≡ q → u ≡ numbered_in d → Give l q u.number ≡ gift_of l d
gift_is l q u d queue event = ap (λ n. Give l n u.number) (sym queue) ∙ ap (λ (w : Numbered). Give l d.queue w.number) event

-- a gift more
pub run_more : (l q : ℕ) (v : View) (s : Passed) (ds es : List Delivery) (w x : View) (t y : Passed) (d : Delivery) (u : Numbered) → AreChoices l v s ds w t → IsChoice w t l q u → d.queue ≡ q → numbered_in d ≡ u
    → x ≡ after w (Give l q u.number ∷ []) → y ≡ given_once t q → es ≡ ds ++ d ∷ [] → AreChoices l v s es x y
run_more l q v s ds es w x t y d u choices choice queue event view given more =
    subst (λ fs. AreChoices l v s fs x y) (sym more)
    (subst (λ z. AreChoices l v s (ds ++ d ∷ []) z y) (sym (view ∙ ap (λ (g : Step). after w (g ∷ [])) (gift_is l q u d queue (sym event))))
    (subst (λ z. AreChoices l v s (ds ++ d ∷ []) (after w (gift_of l d ∷ [])) z) (sym (given ∙ ap (given_once t) (sym queue)))
    (choices_push l v s ds w t d choices (subst (λ n. IsChoice w t l n (numbered_in d)) (sym queue) (subst (IsChoice w t l q) (sym event) choice)))))

-- what was proposed, as it is given
pub choice_given : (l q : ℕ) (v : View) (s : Passed) (d : Delivery) (u : Numbered) → IsChoice v s l d.queue (numbered_in d) → q ≡ d.queue → u ≡ numbered_in d → IsChoice v s l q u
choice_given l q v s d u choice queue event = subst (λ n. IsChoice v s l n u) (sym queue) (subst (IsChoice v s l d.queue) (sym event) choice)

pub offer_given : (l q : ℕ) (v : View) (s : Passed) (d : Delivery) (u : Numbered) → IsChoice v s l d.queue (numbered_in d) → q ≡ d.queue → u ≡ numbered_in d → IsOffer v l q u
offer_given l q v s d u choice queue event = choice_is_offer v s l q u (choice_given l q v s d u choice queue event)

-- and the first gift
pub run_first : (l q : ℕ) (v : View) (s : Passed) (es : List Delivery) (x : View) (y : Passed) (d : Delivery) (u : Numbered) → IsChoice v s l d.queue (numbered_in d) → q ≡ d.queue → u ≡ numbered_in d
    → x ≡ after v (Give l q u.number ∷ []) → y ≡ given_once s q → es ≡ d ∷ [] → AreChoices l v s es x y
run_first l q v s es x y d u choice queue event view given one =
    run_more l q v s [] es v x s y d u (refl, refl) (choice_given l q v s d u choice queue event) (sym queue) (sym event) view given one

-- the turn and what the choice asks for after a gift
pub turn_on : (l q c : ℕ) (w x : View) (t y : Passed) (u : Numbered) → IsSized w → IsOffer w l q u → HasTurn w t q c → x ≡ after w (Give l q u.number ∷ []) → y ≡ given_once t q → HasTurn x y q c
turn_on l q c w x t y u sized offer turn view given =
    subst (λ z. HasTurn z y q c) (sym view) (subst (λ z. HasTurn (after_give w l q u.number) z q c) (sym given) (turn_after w t l q c u sized offer turn))

pub turn_given : (l q c : ℕ) (v x : View) (s y : Passed) (d : Delivery) (u : Numbered) → IsChoice v s l d.queue (numbered_in d) → q ≡ d.queue → u ≡ numbered_in d → c ≡ level_of (numbered_in d).event
    → IsSized v → x ≡ after v (Give l q u.number ∷ []) → y ≡ given_once s q → HasTurn x y q c
turn_given l q c v x s y d u choice queue event level sized view given =
    turn_on l q c v x s y u sized (offer_given l q v s d u choice queue event)
    (turn_of v s l q c u (choice_given l q v s d u choice queue event) (level ∙ ap (λ (w : Numbered). level_of w.event) (sym event))) view given

pub steady_on : (l q more : ℕ) (lanes : SmallSet) (w x : View) (t y : Passed) (u : Numbered) → IsSized w → IsOffer w l q u → q < length t.given → IsSteady w t l q (more + 1) lanes → x ≡ after w (Give l q u.number ∷ []) → y ≡ given_once t q
    → IsSteady x y l q more lanes
steady_on l q more lanes w x t y u sized offer within steady view given =
    subst (λ z. IsSteady z y l q more lanes) (sym view) (subst (λ z. IsSteady (after_give w l q u.number) z l q more lanes) (sym given) (steady_after w t l q u sized offer more lanes within steady))

pub left_on : (l q more : ℕ) (w x : View) (t y : Passed) (u : Numbered) → IsSized w → IsOffer w l q u → q < length t.given → HasLeft w t q (more + 1) → x ≡ after w (Give l q u.number ∷ []) → y ≡ given_once t q → HasLeft x y q more
left_on l q more w x t y u sized offer within left view given =
    subst (λ z. HasLeft z y q more) (sym view) (subst (λ z. HasLeft (after_give w l q u.number) z q more) (sym given) (left_after w t l q u sized offer more within left))

-- no slot is allowed after a gift that wasn't before
pub allowed_on : (l q : ℕ) (slots : SmallSet) (w x : View) (t y : Passed) (u : Numbered) → IsSized w → IsOffer w l q u → HasAllowed w t q slots → x ≡ after w (Give l q u.number ∷ []) → y ≡ given_once t q → HasAllowed x y q slots
allowed_on l q slots w x t y u sized offer allowed view given =
    subst (λ z. HasAllowed z y q slots) (sym view)
    (subst (λ z. HasAllowed (after_give w l q u.number) z q slots) (sym given) (λ slot there is. allowed slot there (is.0, slot_before w t l q u sized offer is.0 q slot is.1)))

-- what is out at a lane after a gift
pub out_on : (l q m : ℕ) (w x : View) (t : Passed) (u : Numbered) → IsSized w → IsOffer w l q u → x ≡ after w (Give l q u.number ∷ []) → length (unanswered_at x m) ≡ length (unanswered_at w m) + cond (l == m) 1 0
out_on l q m w x t u sized offer view =
    ap (λ (z : View). length (unanswered_at z m)) view
    ∙ ⊎_elim
    (λ e. subst (λ k. length (unanswered_at (after_give w l q u.number) k) ≡ length (unanswered_at w k) + cond (l == k) 1 0) e (out_one w t l q u sized offer ∙ ap {B = ℕ} (λ b. length (unanswered_at w l) + cond b 1 0) (sym (eq-eqb l l refl))))
    (λ ne. omega (arith, out_other w t l q u sized offer m (λ e. ne (sym e)), ap {B = ℕ} (λ b. cond b 1 0) (ne_eqb l m ne)))
    (cases_eq l m)

-- the same lanes are open after a gift
pub open_on : (l q : ℕ) (lanes : SmallSet) (w x : View) (t y : Passed) (u : Numbered) → IsSized w → IsOffer w l q u → AreOpenLanes w t q lanes → x ≡ after w (Give l q u.number ∷ []) → y ≡ given_once t q → HasPlace x q
    → length (unanswered_at x l) < depth_of x.shape l → AreOpenLanes x y q lanes
open_on l q lanes w x t y u sized offer are view given place room =
    subst (λ z. AreOpenLanes z y q lanes) (sym view)
    (subst (λ z. AreOpenLanes (after_give w l q u.number) z q lanes) (sym given)
    (open_after w t l q u sized offer lanes are (subst (λ z. HasPlace z q) view place) (subst (λ z. length (unanswered_at z l) < depth_of z.shape l) view room)))

pub serving_on : (l q : ℕ) (lanes : SmallSet) (w x : View) (t y : Passed) (u : Numbered) → IsSized w → IsOffer w l q u → AreServing w t q lanes → x ≡ after w (Give l q u.number ∷ []) → y ≡ given_once t q → HasPlace x q → AreServing x y q lanes
serving_on l q lanes w x t y u sized offer are view given place =
    subst (λ z. AreServing z y q lanes) (sym view) (subst (λ z. AreServing (after_give w l q u.number) z q lanes) (sym given) (serving_after w t l q u sized offer lanes are (subst (λ z. HasPlace z q) view place)))

-- ---- what goes on with a run, before it is counted and logged

-- none given
pub times_none : (s : Passed) (q : ℕ) → given_times s q 0 ≡ s
times_none s q = ap (λ gs. record s { given = gs }) (ap (set s.given q) (omega arith) ∙ set-get_or s.given q 0)

-- events of one queue, as a row of steps
pub gives_are : (l q : ℕ) (ds : List Delivery) → All (λ (d : Delivery). d.queue ≡ q) ds → gives_of l q ds ≡ gifts_of l ds
gives_are l q [] named = refl
gives_are l q (d ∷ ds) named = ap (λ n. Give l n d.number ∷ gives_of l q ds) (sym (All-head (λ (e : Delivery). e.queue ≡ q) d ds named)) ∙ ap (λ ss. gift_of l d ∷ ss) (gives_are l q ds (All-tail (λ (e : Delivery). e.queue ≡ q) d ds named))

-- a row of the queue's events, as it is logged
pub row_logged : (l q most : ℕ) (v : View) (s : Passed) (ds : List Delivery) (w : View) (log later : List Step) → AreGiven l q most v s ds w → later ≡ log ++ gives_of l q ds → later ≡ log ++ gifts_of l ds
row_logged l q most v s ds w log later given pushed = pushed ∙ ap (λ ss. log ++ ss) (gives_are l q ds given.named)
