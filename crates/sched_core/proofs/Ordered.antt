-- The reorder buffer of one queue after a small move, and the place of an unanswered event in it.
use Rattle.std.proofs.Common.{◌≡◌, ◌≢◌, ℕ, zero, suc, ◌+◌, ◌<◌, ◌≤◌, ◌^◌, true, false, not, ◌==◌, List, [], ◌∷◌, ◌++◌, length, map, drop, set, get_or, filter, sum_by, All, Contains, Option, Some, None, slice_get, option_to_list, IsTrue, ◌⊎◌, inl, inr, refl, sym, ap, ◌∙◌, subst, arith}
use Rattle.std.proofs.lemmas.Bool.{cases_Bool, false≢true, cond-true, cond-false}
use Rattle.std.proofs.lemmas.List.{length-append, length-set, length_push, length-drop}
use Rattle.std.proofs.lemmas.List.Elements.{All-nil, All-append, All-push, All-set, All-weaker, All-filter, All-drop, filter_passes}
use Rattle.std.proofs.lemmas.List.Quantifiers.{all_pairs_push}
use Rattle.std.proofs.lemmas.List.Sums.{sum_by-set}
use Rattle.std.proofs.lemmas.Nat.{mod_below}
use Rattle.std.proofs.lemmas.Option.{none-some, same_Some, slice_get_within, get_or_from_slice_get}
use Rattle.lists.proofs.Lists.{AllPairs-drop, All-slice_get, slice_get-append_left, slice_get-last, eqb_same}
use Rattle.transcripts.proofs.PlaceFacts.{answer_at}
use Rattle.evt_types.specs.Plan.{Plan}
use Rattle.evt_types.specs.Place.{Place}
use Rattle.transcripts.specs.Standing.{answer_place, events_of}
use Rattle.evt_types.specs.declared.event.Event.{Event}
use Rattle.evt_types.specs.declared.event.Numbered.{Numbered}
use Rattle.order_parts.specs.Reorder.{Reordering, next_number, number_of, open_place, place_at, is_open, index_of, resolved, after_hand, after_resolve, after_leave, after_leaving, oldest_answered}
use Rattle.order_parts.specs.declared.history.Entry.{Entry}
use Rattle.sched_core.specs.Ordered.{IsOrder, IsGivenOf, KeepsFew, StandsAt, StandsIn, outcome_of, kept_of}
use Rattle.parked_queue.specs.Waits.{Waits, with_event, without_number}
use Rattle.sched_core.proofs.PlaceNumbers.{back_of, counted_on}
use Rattle.lists.proofs.Writes.{slice_get-set_other, slice_get-drop_one, AllPairs-set_like}

-- ---- the events that wait change

-- a queue's events change, and what holds of the places beside them
order_waits : (p : Plan) (depth : ℕ) (w now : Waits) (r : Reordering) → IsOrder p depth w r → All (λ (x : Place). x.number < now.next) r.places → All (IsGivenOf now) r.places → IsOrder p depth now r
order_waits p depth w now r o below given =
    record {
      room = o.room;
      small = o.small;
      within = o.within;
      first = o.first;
      distinct = o.distinct;
      below = below;
      given = given;
      keeps = o.keeps;
    }

-- the event of a number that no place has
pub order_accepts : (p : Plan) (depth : ℕ) (w : Waits) (r : Reordering) (e : Event) → IsOrder p depth w r → IsOrder p depth (with_event w e) r
order_accepts p depth w r e o =
    order_waits p depth w (with_event w e) r o (All-weaker (λ (x : Place). x.number < w.next) (λ (x : Place). x.number < w.next + 1) (λ x h. omega arith) r.places o.below)
    (λ k d lt. All-push (λ (v : Numbered). v.number ≢ (get_or r.places k d).number) w.waiting (record { number = w.next; event = e }) (o.given k d lt) (new (get_or r.places k d) (o.below k d lt)))
  where
    new : (x : Place) → x.number < w.next → w.next ≢ x.number
    new x lt same = omega arith

-- an event no longer waits
pub order_gives : (p : Plan) (depth : ℕ) (w : Waits) (r : Reordering) (n : ℕ) → IsOrder p depth w r → IsOrder p depth (without_number w n) r
order_gives p depth w r n o =
    order_waits p depth w (without_number w n) r o o.below (λ k d lt. All-filter (λ (v : Numbered). not (v.number == n)) (λ (v : Numbered). v.number ≢ (get_or r.places k d).number) w.waiting (o.given k d lt))

-- ---- an event is handed out

-- an event that waits has another number than each place
pub waits_apart : (p : Plan) (depth : ℕ) (w : Waits) (r : Reordering) (v : Numbered) → IsOrder p depth w r → Contains w.waiting v → All (λ (x : Place). v.number ≢ x.number) r.places
waits_apart p depth w r v o c k d lt = subst (λ (u : Numbered). u.number ≢ (get_or r.places k d).number) c.2 (o.given k d lt c.0 v c.1)

gone : (n : ℕ) (vs : List Numbered) → All (λ (v : Numbered). v.number ≢ n) (filter (λ (v : Numbered). not (v.number == n)) vs)
gone n vs =
    All-weaker (λ (v : Numbered). not (v.number == n) ≡ true) (λ (v : Numbered). v.number ≢ n)
    (λ v passes same. false≢true (sym (ap not (ap (λ m. m == n) same ∙ eqb_same n)) ∙ passes)) (filter (λ (v : Numbered). not (v.number == n)) vs)
    (filter_passes (λ (v : Numbered). not (v.number == n)) vs)

-- the event gets the place behind the others
pub order_hands : (p : Plan) (depth : ℕ) (w : Waits) (r : Reordering) (v : Numbered) → IsOrder p depth w r → Contains w.waiting v → v.number < w.next → length r.places < r.depth
    → IsOrder p depth (without_number w v.number) (after_hand r v.number)
order_hands p depth w r v o waits lt room =
    let apart = waits_apart p depth w r v o waits in
    let given = (order_gives p depth w r v.number o).given in
    record {
      room = o.room;
      small = o.small;
      within = subst (λ n. n ≤ r.depth) (sym (length_push r.places (open_place v.number))) (omega arith);
      first = o.first;
      distinct = all_pairs_push (λ (x y : Place). x.number ≢ y.number) r.places (open_place v.number) o.distinct (λ k d h same. apart k d h (sym same));
      below = All-push (λ (x : Place). x.number < w.next) r.places (open_place v.number) o.below lt;
      given = All-push (IsGivenOf (without_number w v.number)) r.places (open_place v.number) given (gone v.number w.waiting);
      keeps = All-push (KeepsFew p) r.places (open_place v.number) o.keeps (record { few = record { few = omega arith; fewer = λ waits. omega arith }; named = All-nil (λ (e : Event). e.queue < length p.queues) });
    }

-- the event's place is where it was, and the same
stands_still : (r : Reordering) (xs : List Place) (y : Entry) (most : ℕ) (s : StandsIn r y most) → slice_get xs s.index ≡ slice_get r.places s.index → StandsIn (record r { places = xs }) y most
stands_still r xs y most s still =
    let at = s.stands in
    record {
      index = s.index;
      stands = record { shown = at.shown; place = at.place; there = still ∙ at.there; number = at.number; waits = at.waits };
      few = s.few;
    }

pub stands_hands : (r : Reordering) (y : Entry) (n most : ℕ) → StandsIn r y most → StandsIn (after_hand r n) y most
stands_hands r y n most s = stands_still r (r.places ++ open_place n ∷ []) y most s (slice_get-append_left r.places (open_place n ∷ []) s.index (slice_get_within r.places s.index s.stands.shown s.stands.there))

pub stands_new : (r : Reordering) (y : Entry) (most : ℕ) → y.place ≡ next_number r → StandsIn (after_hand r y.number) y most
stands_new r y most is =
    record {
      index = length r.places;
      stands = record { shown = open_place y.number; place = is; there = slice_get-last r.places (open_place y.number); number = refl; waits = refl };
      few = omega arith;
    }

-- ---- the place of an unanswered event

-- it keeps no more than a higher bound says
pub stands_more : (r : Reordering) (y : Entry) (m n : ℕ) → m ≤ n → StandsIn r y m → StandsIn r y n
stands_more r y m n le s = let few = s.few in record { index = s.index; stands = s.stands; few = omega arith }

-- the place's number is counted back to where it stands
pub index_is : (p : Plan) (depth : ℕ) (w : Waits) (r : Reordering) (y : Entry) (k : ℕ) → IsOrder p depth w r → StandsAt r y k → index_of r y.place ≡ k
index_is p depth w r y k o at =
    let lt : k < length r.places = slice_get_within r.places k at.shown at.there in
    let within = o.within in
    let small = o.small in
    ap (index_of r) at.place ∙ back_of r.first k o.first (omega arith)

pub is_there : (p : Plan) (depth : ℕ) (w : Waits) (r : Reordering) (y : Entry) (k : ℕ) → IsOrder p depth w r → (at : StandsAt r y k) → place_at r y.place ≡ Some at.shown
is_there p depth w r y k o at = ap (slice_get r.places) (index_is p depth w r y k o at) ∙ at.there

pub shown_is : (r : Reordering) (y : Entry) (k : ℕ) (d : Place) → (at : StandsAt r y k) → get_or r.places k d ≡ at.shown
shown_is r y k d at = get_or_from_slice_get r.places k at.shown d at.there

pub shown_keeps : (p : Plan) (depth : ℕ) (w : Waits) (r : Reordering) (y : Entry) (k : ℕ) → IsOrder p depth w r → (at : StandsAt r y k) → KeepsFew p at.shown
shown_keeps p depth w r y k o at = All-slice_get (KeepsFew p) r.places k at.shown o.keeps at.there

-- ---- what is in the place changes

abbrev pub with_places : Reordering → List Place → Reordering
with_places r xs = record r { places = xs }

-- the place keeps its number, and few events
pub order_writes : (p : Plan) (depth : ℕ) (w : Waits) (r : Reordering) (y : Entry) (k : ℕ) (x : Place) → IsOrder p depth w r → (at : StandsAt r y k) → x.number ≡ at.shown.number
    → KeepsFew p x → IsOrder p depth w (with_places r (set r.places k x))
order_writes p depth w r y k x o at same keeps =
    record {
      room = o.room;
      small = o.small;
      within = subst (λ n. n ≤ r.depth) (sym (length-set r.places k x)) o.within;
      first = o.first;
      distinct = AllPairs-set_like (λ (z : Place). z.number) (λ m n. m ≢ n) r.places k x (open_place 0) lt number o.distinct;
      below = All-set (λ (z : Place). z.number < w.next) r.places k x (subst (λ n. n < w.next) (sym number) (o.below k (open_place 0) lt)) o.below;
      given = All-set (IsGivenOf w) r.places k x (subst (λ n. All (λ (v : Numbered). v.number ≢ n) w.waiting) (sym number) (o.given k (open_place 0) lt)) o.given;
      keeps = All-set (KeepsFew p) r.places k x keeps o.keeps;
    }
  where
    lt : k < length r.places
    lt = slice_get_within r.places k at.shown at.there

    number : x.number ≡ (get_or r.places k (open_place 0)).number
    number = same ∙ sym (ap (λ (z : Place). z.number) (shown_is r y k (open_place 0) at))

-- how many events are kept more
pub writes_keep : (r : Reordering) (y : Entry) (k n : ℕ) (x : Place) → (at : StandsAt r y k) → length x.forwards ≡ length at.shown.forwards + n
    → kept_of (set r.places k x) ≡ kept_of r.places + n
writes_keep r y k n x at more =
    let size : Place → ℕ = λ z. length z.forwards in
    let was : length (get_or r.places k (open_place 0)).forwards ≡ length at.shown.forwards = ap size (shown_is r y k (open_place 0) at) in
    let change : sum_by size (set r.places k x) + length (get_or r.places k (open_place 0)).forwards ≡ sum_by size r.places + length x.forwards =
    sum_by-set size r.places k x (open_place 0) (slice_get_within r.places k at.shown at.there) in
    omega arith

-- the others' places stay where they are
pub stands_written : (r : Reordering) (y z : Entry) (k most : ℕ) (x : Place) → StandsAt r y k → z.number ≢ y.number → StandsIn r z most → StandsIn (with_places r (set r.places k x)) z most
stands_written r y z k most x at differs s = stands_still r (set r.places k x) z most s (slice_get-set_other r.places k s.index x apart)
  where
    apart : s.index ≢ k
    apart same =
        let one : s.stands.shown ≡ at.shown = same_Some s.stands.shown at.shown (sym s.stands.there ∙ (ap (slice_get r.places) same ∙ at.there)) in
        differs (sym s.stands.number ∙ (ap (λ (x : Place). x.number) one ∙ at.number))

-- ---- an event is answered

-- it may be resolved
pub may_resolve : (p : Plan) (depth : ℕ) (w : Waits) (r : Reordering) (y : Entry) (most : ℕ) → IsOrder p depth w r → StandsIn r y most → IsTrue (is_open (place_at r y.place))
may_resolve p depth w r y most o s = subst (λ x. IsTrue (is_open x)) (sym (is_there p depth w r y s.index o s.stands)) (ap not s.stands.waits)

pub resolve_is : (p : Plan) (depth : ℕ) (w : Waits) (r : Reordering) (y : Entry) (k : ℕ) (f : Option Event) → IsOrder p depth w r → (at : StandsAt r y k)
    → after_resolve r y.place f ≡ with_places r (set r.places k (resolved at.shown f))
resolve_is p depth w r y k f o at =
    ap (λ i. with_places r (set r.places i (resolved (get_or r.places i (open_place 0)) f))) (index_is p depth w r y k o at)
    ∙ ap (λ x. with_places r (set r.places k (resolved x f))) (shown_is r y k (open_place 0) at)

-- the answer is one of the event's place alone
pub resolve_answers : (p : Plan) (depth : ℕ) (w : Waits) (r : Reordering) (y : Entry) (most : ℕ) (f : Option Event) → IsOrder p depth w r → StandsIn r y most
    → (after_resolve r y.place f).places ≡ map (answer_place y.number (outcome_of f)) r.places
resolve_answers p depth w r y most f o s =
    let k : ℕ = s.index in
    let x : Place = s.stands.shown in
    let here : get_or r.places k (open_place 0) ≡ x = shown_is r y k (open_place 0) s.stands in
    ap (λ (q : Reordering). q.places) (resolve_is p depth w r y k f o s.stands)
    ∙ sym (answer_at r.places k y.number (outcome_of f) (open_place 0) o.distinct (slice_get_within r.places k x s.stands.there) (ap (λ (z : Place). z.number) here ∙ s.stands.number)
    ∙ (ap (λ (z : Place). set r.places k (record { number = y.number; answered = true; forwards = z.forwards ++ events_of (outcome_of f) })) here
    ∙ (ap (λ es. set r.places k (record { number = y.number; answered = true; forwards = x.forwards ++ es })) (events_are f)
    ∙ ap (λ n. set r.places k (record { number = n; answered = true; forwards = x.forwards ++ option_to_list f })) (sym s.stands.number))))
  where
    events_are : (g : Option Event) → events_of (outcome_of g) ≡ option_to_list g
    events_are None = refl
    events_are (Some e) = refl

-- what is kept more
pub resolve_keeps : (p : Plan) (depth : ℕ) (w : Waits) (r : Reordering) (y : Entry) (most : ℕ) (f : Option Event) → IsOrder p depth w r → StandsIn r y most
    → kept_of (after_resolve r y.place f).places ≡ kept_of r.places + length (option_to_list f)
resolve_keeps p depth w r y most f o s =
    ap (λ (q : Reordering). kept_of q.places) (resolve_is p depth w r y s.index f o s.stands)
    ∙ writes_keep r y s.index (length (option_to_list f)) (resolved s.stands.shown f) s.stands (length-append s.stands.shown.forwards (option_to_list f))

pub order_answers : (p : Plan) (depth : ℕ) (w : Waits) (r : Reordering) (y : Entry) (most : ℕ) (f : Option Event) → IsOrder p depth w r → StandsIn r y most
    → ((e : Event) → f ≡ Some e → e.queue < length p.queues) → IsOrder p depth w (after_resolve r y.place f)
order_answers p depth w r y most f o s named =
    subst (IsOrder p depth w) (sym (resolve_is p depth w r y s.index f o s.stands)) (order_writes p depth w r y s.index (resolved s.stands.shown f) o s.stands refl (keeps f named))
  where
    es : List Event
    es = s.stands.shown.forwards

    had : KeepsFew p s.stands.shown
    had = shown_keeps p depth w r y s.index o s.stands

    keeps : (g : Option Event) → ((e : Event) → g ≡ Some e → e.queue < length p.queues) → KeepsFew p (resolved s.stands.shown g)
    keeps None known =
        let few = had.few.few in
        let long = length-append es [] in
        record { few = record { few = omega arith; fewer = λ waits. absurd (false≢true (sym waits)) }; named = All-append (λ (e : Event). e.queue < length p.queues) es [] had.named (All-nil (λ (e : Event). e.queue < length p.queues)) }
    keeps (Some e) known =
        let few = had.few.fewer s.stands.waits in
        let long = length-append es (e ∷ []) in
        record { few = record { few = omega arith; fewer = λ waits. absurd (false≢true (sym waits)) }; named = All-push (λ (d : Event). d.queue < length p.queues) es e had.named (known e refl) }

pub stands_answers : (p : Plan) (depth : ℕ) (w : Waits) (r : Reordering) (y z : Entry) (most other : ℕ) (f : Option Event) → IsOrder p depth w r → StandsIn r y most → z.number ≢ y.number
    → StandsIn r z other → StandsIn (after_resolve r y.place f) z other
stands_answers p depth w r y z most other f o s differs is =
    subst (λ q. StandsIn q z other) (sym (resolve_is p depth w r y s.index f o s.stands)) (stands_written r y z s.index other (resolved s.stands.shown f) s.stands differs is)

-- ---- the oldest place leaves

-- the place that leaves is the first, and answered
pub leaving_is : (xs : List Place) (x : Place) → oldest_answered xs ≡ Some x → (xs ≡ x ∷ drop 1 xs) × (x.answered ≡ true)
leaving_is [] x e = absurd (none-some x e)
leaving_is (y ∷ xs) x e = by_case (cases_Bool y.answered)
  where
    by_case : (y.answered ≡ true) ⊎ (y.answered ≡ false) → (y ∷ xs ≡ x ∷ xs) × (x.answered ≡ true)
    by_case (inl done) =
        let same : y ≡ x = same_Some y x (sym (cond-true y.answered (Some y) None done) ∙ e) in
        (ap (λ z. z ∷ xs) same, ap (λ (z : Place). z.answered) (sym same) ∙ done)
    by_case (inr waits) = absurd (none-some x (sym (cond-false y.answered (Some y) None waits) ∙ e))

pub order_leaves : (p : Plan) (depth : ℕ) (w : Waits) (r : Reordering) → IsOrder p depth w r → IsOrder p depth w (after_leave r)
order_leaves p depth w r o = by_oldest (oldest_answered r.places)
  where
    by_oldest : (x : Option Place) → IsOrder p depth w (after_leaving r x)
    by_oldest None = o
    by_oldest (Some x) =
        record {
          room = o.room;
          small = o.small;
          within = let within = o.within in subst (λ n. n ≤ r.depth) (sym (length-drop 1 r.places)) (omega arith);
          first = mod_below (r.first + 1) (2 ^ 64) (omega arith);
          distinct = AllPairs-drop (λ (y z : Place). y.number ≢ z.number) 1 r.places o.distinct;
          below = All-drop (λ (y : Place). y.number < w.next) 1 r.places o.below;
          given = All-drop (IsGivenOf w) 1 r.places o.given;
          keeps = All-drop (KeepsFew p) 1 r.places o.keeps;
        }

-- an open place is nearer the front by one
pub stands_leaves : (r : Reordering) (y : Entry) (most : ℕ) → StandsIn r y most → StandsIn (after_leave r) y most
stands_leaves r y most s = by_oldest (oldest_answered r.places) refl
  where
    heads : (xs : List Place) (x z : Place) → xs ≡ x ∷ drop 1 xs → slice_get xs 0 ≡ Some z → x ≡ z
    heads [] x z e first = absurd (none-some z first)
    heads (v ∷ xs) x z e first = cc

    no_place : (x : Place) → oldest_answered r.places ≡ Some x → slice_get r.places 0 ≡ Some s.stands.shown → ⊥
    no_place x e first =
        let is = leaving_is r.places x e in
        false≢true (sym s.stands.waits ∙ (ap (λ (z : Place). z.answered) (sym (heads r.places x s.stands.shown is.0 first)) ∙ is.1))

    by_place : (x : Place) → oldest_answered r.places ≡ Some x → (k : ℕ) → s.index ≡ k → StandsIn (after_leaving r (Some x)) y most
    by_place x e zero is = absurd (no_place x e (ap (slice_get r.places) (sym is) ∙ s.stands.there))
    by_place x e (suc k) is =
        record {
          index = k;
          stands =
              record {
                shown = s.stands.shown;
                place = s.stands.place ∙ (ap (number_of r) is ∙ sym (counted_on r.first k));
                there = slice_get-drop_one r.places k ∙ (ap (slice_get r.places) (sym is) ∙ s.stands.there);
                number = s.stands.number;
                waits = s.stands.waits;
              };
          few = s.few;
        }

    by_oldest : (x : Option Place) → oldest_answered r.places ≡ x → StandsIn (after_leaving r x) y most
    by_oldest None e = s
    by_oldest (Some x) e = by_place x e s.index refl
