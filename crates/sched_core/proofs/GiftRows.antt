-- A core after a row of events is handed to a lane: that what holds of each core holds of it, and that each event was the choice.
use Rattle.std.proofs.Common.{◌≡◌, ◌↔◌, ℕ, ◌+◌, ◌<◌, ◌≤◌, ◌%◌, append_assoc, drop, take, eqb-true, true, false, List, [], ◌∷◌, ◌++◌, length, map, set, get_or, All, Contains, Some, refl, sym, ap, ◌∙◌, subst, arith}
use Rattle.std.proofs.lemmas.Grind.{get_or-set_at}
use Rattle.std.specs.List.{take-map}
use Rattle.std.proofs.lemmas.List.{get_or-set_same, length-map, length-set, set-get_or, set-set, take-append-drop}
use Rattle.std.proofs.lemmas.List.Elements.{All-contains_itself, All-filter, All-head, All-map, All-tail, filter_passes}
use Rattle.lists.proofs.Lists.{All-front}
use Rattle.evt_types.specs.Plan.{has_flow_lanes, level_of}
use Rattle.evt_types.specs.declared.shape.TheConstants.{MAX_QUEUES}
use Rattle.evt_types.specs.declared.event.Event.{Event}
use Rattle.evt_types.specs.declared.event.Delivery.{Delivery}
use Rattle.evt_types.specs.declared.event.Numbered.{Numbered}
use Rattle.evt_types.specs.declared.step.Step.TheVariants.{Give}
use Rattle.order_parts.specs.Dealing.{with_entry}
use Rattle.order_parts.specs.History.{Entries}
use Rattle.order_parts.specs.Orders.{handed, is_restoring, order_at}
use Rattle.order_parts.specs.Pins.{Pin}
use Rattle.order_parts.specs.Reorder.{Reordering, next_number}
use Rattle.order_parts.specs.declared.history.Entry.{Entry}
use Rattle.parked_queue.proofs.LevelHeads.{first_at, rest_at}
use Rattle.parked_queue.proofs.Taking.{waits_without}
use Rattle.parked_queue.specs.Lists.{named_delivery}
use Rattle.parked_queue.specs.Rows.{at_level, is_at, without_all}
use Rattle.parked_queue.specs.Waits.{AreNamed, IsOnlyOf, Waits, no_waits, waits_at, without_number}
use Rattle.sched_core.proofs.Busy.{waits_is}
use Rattle.sched_core.proofs.Cores.{only_event, queue_here, queue_there, waiting_here}
use Rattle.sched_core.proofs.FirstOnes.{found_first, found_slot, slots_within}
use Rattle.sched_core.proofs.Giving.{given_out}
use Rattle.sched_core.proofs.News.{slots_range}
use Rattle.order_parts.proofs.Fewest.{not_itself}
use Rattle.sched_core.proofs.Offers.{all_allowed, choice_is_offer, offer_in}
use Rattle.sched_core.proofs.OpenLanes.{held_best, held_fits}
use Rattle.sched_core.proofs.Pinned.{may_is_alone}
use Rattle.sched_core.proofs.Runs.{choice_in_turn, steady_on, times_none, turn_on}
use Rattle.sched_core.proofs.Sound.{core_sized}
use Rattle.sched_core.specs.Offered.{AreOpenLanes, FitsSlot, IsOfferIn, IsOnly, MayHold, loads_at, slot_at}
use Rattle.sched_core.specs.GiftRows.{AreHanded, pinned_on}
use Rattle.sched_core.specs.Runs.{AreChoices, AreGiven, HasTurn, IsSteady, given_once, given_times}
use Rattle.sched_core.specs.View.{IsCore, unanswered_in, view_in}
use Rattle.sched_core.specs.declared.state.Core.TheInside.{Inside}
use Rattle.small_set.specs.SmallSets.{Has}
use Rattle.small_set.specs.declared.set.SmallSet.{SmallSet}
use Rattle.transcripts.specs.Choice.{HasQuota, IsBetterLane, IsChoice, IsOffer, Passed}
use Rattle.transcripts.specs.Standing.{View, after, after_give}

-- the core with other lists, orders, pins and histories
abbrev pub with_parts : Inside → List Waits → List Reordering → List (List Pin) → List Entries → Inside
with_parts a qs os ps ls = record { shape = a.shape; queues = qs; orders = os; lanes = ls; extras = a.extras; pins = ps; links = a.links; ahead = a.ahead; slot_lanes = a.slot_lanes; open_slots = a.open_slots; bound = a.bound; log_room = a.log_room; inside = a.inside; entries = a.entries; shut = a.shut }

-- ---- one event of a row

pub record IsOne (a : Inside) (t : Passed) (l q : ℕ) (w : Numbered) (y : Entry) : Type 0 where
  pub choice : IsChoice (view_in a) t l q w
  pub core : IsCore (with_parts a (set a.queues q (without_number (waits_at a.queues q) w.number)) (set a.orders q (handed (order_at a.orders q) w.number)) (pinned_on a.pins q y.slot l) (with_entry a.lanes l y))
  pub view : view_in (with_parts a (set a.queues q (without_number (waits_at a.queues q) w.number)) (set a.orders q (handed (order_at a.orders q) w.number)) (pinned_on a.pins q y.slot l) (with_entry a.lanes l y)) ≡ after_give (view_in a) l q w.number

-- the level's first event is the choice for the best of the lanes that may take it
pub one_given : (n q c : ℕ) (all : SmallSet) → ((slot : ℕ) → slot < 64 → Has all slot) → (l : ℕ) (a : Inside) (t : Passed) (w : Numbered) (ws : List Numbered) (place : ℕ) → IsCore a → q < length a.shape.queues
    → n ≡ (waits_at a.queues q).slots → HasTurn (view_in a) t q c → HasQuota (view_in a) t q → at_level c (waits_at a.queues q) ≡ w ∷ ws → FitsSlot (view_in a) t q (w.event.flow % n) l
    → ((m : ℕ) → FitsSlot (view_in a) t q (w.event.flow % n) m → ¬ IsBetterLane (view_in a) m l) → (is_restoring (order_at a.orders q) ≡ true → place ≡ next_number (order_at a.orders q))
    → IsOne a t l q w (record { queue = q; number = w.number; slot = w.event.flow % n; place = place })
one_given n q c all full l a t w ws place core there slots turn quota whole fits best placed =
    let v : View = view_in a in
    let h : q < length a.queues = omega (arith, there, core.queues) in
    let u : Waits = waits_at a.queues q in
    let sound = (queue_here a q u core h (waits_is a.queues q h)).waits in
    let few = (slots_range a.shape q core.limits there).1 in
    let slot : w.event.flow % n ≡ slot_at v q w = found_slot a v q core refl there (w.event.flow % n) w (ap (λ k. w.event.flow % k) slots) in
    let within = slots_within v q core.limits there w in
    let first = found_first a v q core refl there c all w (first_at u c all w ws sound whole (full (w.event.flow % u.slots) (omega (arith, slot, within, few, ap (λ k. w.event.flow % k) slots)))) in
    let offered : IsOfferIn v t q c l w = offer_in v t q c l (w.event.flow % n) all w (all_allowed v t q all (λ k lt. full k (omega (arith, few, lt)))) (slots_within v q core.limits there) first slot fits best in
    let choice = choice_in_turn v t l q c w turn quota offered in
    let offer : IsOffer v l q w = choice_is_offer v t l q w choice in
    let given = given_out a v l q (w.event.flow % n) place w core refl offer slot (set a.queues q (without_number u w.number)) (set a.orders q (handed (order_at a.orders q) w.number))
    (with_entry a.lanes l (record { queue = q; number = w.number; slot = w.event.flow % n; place = place })) (pinned_on a.pins q (w.event.flow % n) l) refl (waits_without u w.number sound) refl placed refl refl in
    record { choice = choice; core = given.core; view = given.view }

-- one event and then others
pub times_on : (t : Passed) (q k : ℕ) → q < length t.given → given_times (given_once t q) q k ≡ given_times t q (k + 1)
times_on t q k within =
    ap (λ gs. record t { given = gs })
    (set-set t.given q (get_or t.given q 0 + 1) (get_or (set t.given q (get_or t.given q 0 + 1)) q 0 + k)
    ∙ ap (set t.given q) (omega (arith, get_or-set_at t.given q q (get_or t.given q 0 + 1) 0 refl within)))

module _ (n l q c : ℕ) (lanes all : SmallSet) (only : IsOnly lanes l) (full : (slot : ℕ) → slot < 64 → Has all slot) where
  -- ---- the row

  pub record AreRow (a b : Inside) (t : Passed) (ds : List Delivery) : Type 0 where
    pub core : IsCore b
    pub choices : AreChoices l (view_in a) t ds (view_in b) (given_times t q (length ds))

  -- what is steady for several is so for one
  fewer_steady : (v : View) (t : Passed) (k : ℕ) → IsSteady v t l q k lanes → 0 < k → IsSteady v t l q 1 lanes
  fewer_steady v t k steady some =
      record {
        quota = let quota = steady.quota in omega (arith, some);
        opened = λ more. steady.opened some;
        room = let room = steady.room in omega (arith, some);
        places = λ ordered. let places = steady.places ordered in omega (arith, some);
      }

  pub row_gives : (a : Inside) (t : Passed) (hs rest : List Numbered) (qs : List Waits) (os : List Reordering) (ps : List (List Pin)) (ls : List Entries) → IsCore a → q < length a.shape.queues → has_flow_lanes a.shape q ≡ false → n ≡ (waits_at a.queues q).slots
      → q < length t.given → HasTurn (view_in a) t q c → IsSteady (view_in a) t l q (length hs) lanes → at_level c (waits_at a.queues q) ≡ hs ++ rest → AreNamed q hs
      → qs ≡ set a.queues q (without_all (waits_at a.queues q) (map named_delivery hs)) → AreHanded n l q a.orders a.pins a.lanes (map named_delivery hs) os ps ls → AreRow a (with_parts a qs os ps ls) t (map named_delivery hs)
  row_gives a t [] rest qs os ps ls core there ports slots within turn steady whole named queues went =
      let same : with_parts a qs os ps ls ≡ a =
      ap (λ xs. with_parts a xs os ps ls) (queues ∙ set-get_or a.queues q (no_waits 1 0))
      ∙ (ap (λ xs. with_parts a a.queues xs ps ls) went.0 ∙ (ap (λ xs. with_parts a a.queues a.orders xs ls) went.1 ∙ ap (λ xs. with_parts a a.queues a.orders a.pins xs) went.2))
      in
      record { core = subst IsCore (sym same) core; choices = (ap view_in same, times_none t q) }
  row_gives a t (w ∷ hs) rest qs os ps ls core there ports slots within turn steady whole named queues went =
      let now : IsSteady (view_in a) t l q 1 lanes = fewer_steady (view_in a) t (length (w ∷ hs)) steady (omega arith) in
      let y : Entry = record { queue = q; number = w.number; slot = w.event.flow % n; place = went.0 } in
      let u : Waits = waits_at a.queues q in
      let quota : HasQuota (view_in a) t q = let quota = now.quota in omega arith in
      let slot : ℕ = w.event.flow % n in
      let are : AreOpenLanes (view_in a) t q lanes = now.opened (omega arith) in
      let holds : MayHold (view_in a) lanes q slot l = (only.0, may_is_alone a.shape (map unanswered_in a.lanes) a.pins q slot l core.pins went.1) in
      let best : (m : ℕ) → MayHold (view_in a) lanes q slot m → ¬ IsBetterLane (view_in a) m l = λ m held. not_itself (loads_at (view_in a)) l m (sym (only.1 m held.0)) in
      let one = one_given n q c all full l a t w (hs ++ rest) went.0 core there slots turn quota whole (held_fits (view_in a) t q slot lanes (Some l) are holds) (held_best (view_in a) t q slot lanes (Some l) ports are best) went.2 in
      let b : Inside = with_parts a (set a.queues q (without_number u w.number)) (set a.orders q (handed (order_at a.orders q) w.number)) (pinned_on a.pins q y.slot l) (with_entry a.lanes l y) in
      let h : q < length a.queues = omega (arith, there, core.queues) in
      let at : waits_at b.queues q ≡ without_number u w.number = get_or-set_same a.queues q (without_number u w.number) (no_waits 1 0) h in
      let sound = (queue_here a q u core h (waits_is a.queues q h)).waits in
      let sized = core_sized a core in
      let offer : IsOffer (view_in a) l q w = choice_is_offer (view_in a) t l q w one.choice in
      let on = row_gives b (given_once t q) hs rest qs os ps ls one.core there ports (slots ∙ sym (ap (λ (x : Waits). x.slots) at)) (omega (arith, within, length-set t.given q (get_or t.given q 0 + 1)))
      (turn_on l q c (view_in a) (view_in b) t (given_once t q) w sized offer turn one.view refl)
      (steady_on l q (length hs) lanes (view_in a) (view_in b) t (given_once t q) w sized offer within (subst (λ k. IsSteady (view_in a) t l q k lanes) (omega arith) steady) one.view refl)
      (ap (at_level c) at ∙ rest_at u c w (hs ++ rest) sound whole)
      (All-tail (λ (x : Numbered). x.event.queue ≡ q) w hs named)
      (queues ∙ (sym (set-set a.queues q (without_number u w.number) (without_all (without_number u w.number) (map named_delivery hs))) ∙ ap (λ x. set b.queues q (without_all x (map named_delivery hs))) (sym at)))
      went.3
      in
      let here : w.event.queue ≡ q = All-head (λ (x : Numbered). x.event.queue ≡ q) w hs named in
      record {
        core = on.core;
        choices = (
          subst (λ k. IsChoice (view_in a) t l k w) (sym here) one.choice,
          subst (λ k. AreChoices l (after (view_in a) (Give l k w.number ∷ [])) (given_once t k) (map named_delivery hs) (view_in (with_parts a qs os ps ls)) (given_times t q (length (map named_delivery (w ∷ hs))))) (sym here)
              (subst (λ x. AreChoices l x (given_once t q) (map named_delivery hs) (view_in (with_parts a qs os ps ls)) (given_times t q (length (map named_delivery (w ∷ hs))))) one.view
              (subst (AreChoices l (view_in b) (given_once t q) (map named_delivery hs) (view_in (with_parts a qs os ps ls))) (times_on t q (length (map named_delivery hs)) within ∙ ap (given_times t q) (omega arith)) on.choices)),
        );
      }

-- ---- what a row leaves

-- what is steady for so many is so for fewer
less_steady : (v : View) (t : Passed) (l q most less : ℕ) (lanes : SmallSet) → less ≤ most → IsSteady v t l q most lanes → IsSteady v t l q less lanes
less_steady v t l q most less lanes few steady =
    record {
      quota = let quota = steady.quota in omega (arith, few);
      opened = λ more. steady.opened (omega (arith, more, few));
      room = let room = steady.room in omega (arith, few);
      places = λ ordered. let places = steady.places ordered in omega (arith, few);
    }

-- the first events of the level are handed to the only open lane
pub row_done : (l q c most : ℕ) (lanes all : SmallSet) → IsOnly lanes l → ((i : ℕ) → Has all i ↔ (i < 64)) → (a : Inside) (v : View) (t : Passed) → IsCore a → view_in a ≡ v → has_flow_lanes v.shape q ≡ false → length t.given ≡ MAX_QUEUES
    → HasTurn v t q c → IsSteady v t l q most lanes → (hs rest : List Numbered) → at_level c (waits_at a.queues q) ≡ hs ++ rest → AreNamed q hs → length hs ≤ most
    → (qs : List Waits) (os : List Reordering) (ps : List (List Pin)) (ls : List Entries) → qs ≡ set a.queues q (without_all (waits_at a.queues q) (map named_delivery hs))
    → AreHanded (waits_at a.queues q).slots l q a.orders a.pins a.lanes (map named_delivery hs) os ps ls
    → IsCore (with_parts a qs os ps ls) × AreGiven l q most v t (map named_delivery hs) (view_in (with_parts a qs os ps ls))
row_done l q c most lanes all only full a v t core same ports counts turn steady hs rest whole named few qs os ps ls queues went =
    let there : q < length a.shape.queues = queue_there a v q same turn.there in
    let row = row_gives (waits_at a.queues q).slots l q c lanes all only (λ slot lt. (full slot).1 lt) a t hs rest qs os ps ls core there (ap (λ (u : View). has_flow_lanes u.shape q) same ∙ ports) refl
    (let limits = core.limits.queue_count.1 in omega (arith, there, limits, counts))
    (subst (λ u. HasTurn u t q c) (sym same) turn)
    (less_steady (view_in a) t l q most (length hs) lanes few (subst (λ u. IsSteady u t l q most lanes) (sym same) steady))
    whole named queues went
    in (
      row.core,
      record {
        choices = subst (λ u. AreChoices l u t (map named_delivery hs) (view_in (with_parts a qs os ps ls)) (given_times t q (length (map named_delivery hs)))) same row.choices;
        named = All-map (λ (d : Delivery). d.queue ≡ q) named_delivery hs named;
        few = omega (arith, few, length-map hs named_delivery);
        shape = ap (λ (u : View). u.shape) same;
      },
    )

-- an event of the level is the only one of its number
pub heads_only : (a : Inside) (q c : ℕ) (hs rest : List Numbered) → IsCore a → q < length a.shape.queues → at_level c (waits_at a.queues q) ≡ hs ++ rest
    → All (λ (d : Delivery). IsOnlyOf (waits_at a.queues q) c (d.event.flow % (waits_at a.queues q).slots) d.number) (map named_delivery hs)
heads_only a q c hs rest core there whole =
    All-map (λ (d : Delivery). IsOnlyOf u c (d.event.flow % u.slots) d.number) named_delivery hs
    (All-front (λ (w : Numbered). IsOnlyOf u c (w.event.flow % u.slots) w.number) hs rest
    (subst (All (λ (w : Numbered). IsOnlyOf u c (w.event.flow % u.slots) w.number)) whole (λ k d lt.
    only_one (get_or (at_level c u) k d) (All-filter (is_at c) (Contains u.waiting) u.waiting (All-contains_itself u.waiting) k d lt) (filter_passes (is_at c) u.waiting k d lt))))
  where
    u : Waits
    u = waits_at a.queues q

    h : q < length a.queues
    h = omega (arith, there, core.queues)

    only_one : (w : Numbered) → Contains u.waiting w → is_at c w ≡ true → IsOnlyOf u c (w.event.flow % u.slots) w.number
    only_one w has here k d lt same =
        let one = only_event a q u w core h (waits_is a.queues q h) (subst (λ ws. Contains ws w) (sym (waiting_here a q u h (waits_is a.queues q h))) has) k d lt same in
        (ap level_of one ∙ eqb-true (level_of w.event) c here, ap (λ (e : Event). e.flow % u.slots) one)

-- the run, and what is left of it where it is cut behind the events that were handed out
pub row_begun : (run longer : List Delivery) (heads : List Numbered) → run ≡ [] → longer ≡ run ++ map named_delivery heads → longer ≡ map named_delivery heads
row_begun run longer heads none whole = whole ∙ ap (λ ds. ds ++ map named_delivery heads) none

pub cut_row : (longer cut : List Delivery) (heads : List Numbered) (count : ℕ) → longer ≡ map named_delivery heads → cut ≡ take count longer → cut ≡ map named_delivery (take count heads)
cut_row longer cut heads count whole is = is ∙ (ap (take count) whole ∙ take-map named_delivery count heads)

pub cut_heads : (all : List Numbered) (heads rest : List Numbered) (count : ℕ) → all ≡ heads ++ rest → all ≡ take count heads ++ (drop count heads ++ rest)
cut_heads all heads rest count whole = whole ∙ (ap (λ ws. ws ++ rest) (sym (take-append-drop count heads)) ∙ append_assoc (take count heads) (drop count heads) rest)
