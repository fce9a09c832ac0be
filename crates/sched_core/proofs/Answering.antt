-- A core after an answer: its view, and that what holds of each core holds of it.
use Rattle.std.proofs.Common.{◌≡◌, ℕ, ◌+◌, ◌-◌, ◌<◌, ◌≤◌, ◌^◌, Bool, true, false, cond, ◌&&◌, List, [], ◌∷◌, length, map, drop, set, get_or, All, Option, Some, None, is_some, option_to_list, IsTrue, sum_by, slice_get, ◌⊎◌, inl, inr, refl, sym, ap, ◌∙◌, subst, arith, Vec, Global}
use Rattle.std.proofs.lemmas.Bool.{cases_Bool, cond-true, cond-false, lt-ltb}
use Rattle.std.proofs.lemmas.List.{length-set, length-drop, length-map, map-set, drop-map, get_or-map, set-get_or}
use Rattle.std.proofs.lemmas.List.Elements.{All-head}
use Rattle.std.proofs.lemmas.List.Sums.{sum_by-set, get_or-le-sum_by}
use Rattle.lists.proofs.Sums.{sum_of_map}
use Rattle.evt_types.specs.Fault.{IsWithinLimits}
use Rattle.evt_types.specs.Plan.{Plan, queue_of, bound_of, lanes_of, is_ordered, kept_room}
use Rattle.transcripts.specs.Standing.{View, inside_of, entries_of, kept_in, oldest_at, places_at, unanswered_at, answer_place, events_of}
use Rattle.transcripts.specs.Transcript.{Held}
use Rattle.evt_types.specs.declared.event.Event.{Event}
use Rattle.evt_types.specs.declared.step.Outcome.{Outcome}
use Rattle.order_parts.specs.Reorder.{Reordering, empty, after_resolve, is_open, place_at}
use Rattle.std.specs.Vec.{with_item}
use Rattle.order_parts.proofs.Roomy.{lane_is}
use Rattle.order_parts.specs.Histories.{lane_in}
use Rattle.order_parts.specs.History as histories
use Rattle.order_parts.specs.History.{Entries}
use Rattle.order_parts.specs.Pins.{Pin, unpinned}
use Rattle.order_parts.specs.declared.history.Entry.{Entry}
use Rattle.sched_core.proofs.Cores.{core_with, first_here, held_sum, in_view, kept_after, lane_there, places_here, places_there, queues_here, room_set, same_parts, unanswered_here}
use Rattle.sched_core.proofs.OrderMoves.{answer_is_open, answered_place, answered_plain}
use Rattle.sched_core.proofs.Ordered.{resolve_answers, resolve_keeps}
use Rattle.sched_core.proofs.Pinned.{oldest_known, oldest_pinned, pins_answered}
use Rattle.sched_core.specs.Answered.{places_answered, after_answer}
use Rattle.sched_core.specs.Inner.{unplaced}
use Rattle.parked_queue.specs.Waits.{waits_at}
use Rattle.sched_core.specs.Ordered.{ArePlaces, IsOrder, StandsIn, added_beside, entry_at, entries_at, kept_of, outcome_of, places_in}
use Rattle.order_parts.specs.Orders.{order_at, is_restoring, resolved_in}
use Rattle.sched_core.specs.Pinned.{ArePins}
use Rattle.order_parts.specs.QueuePins.{pins_at, pin_in, with_pin}
use Rattle.sched_core.proofs.OpenSlots.{opened}
use Rattle.sched_core.specs.OpenSlots.{IsOpened}
use Rattle.small_set.specs.declared.set.SmallSet.{SmallSet}
use Rattle.sched_core.specs.View.{waiting_in, next_in, unanswered_in, entries_in, view_in, IsCore}
use Rattle.sched_core.specs.declared.state.Core.TheInside.{Inside}

-- ---- a queue's buffer

-- a queue restores an order where its buffer has room for places
pub restoring_is : (p : Plan) (r : Reordering) (q : ℕ) → IsWithinLimits p → q < length p.queues → r.depth ≡ kept_room (queue_of p q) → is_restoring r ≡ is_ordered (queue_of p q).kind
restoring_is p r q limits h depth = by_kind (cases_Bool (is_ordered (queue_of p q).kind))
  where
    by_kind : (is_ordered (queue_of p q).kind ≡ true) ⊎ (is_ordered (queue_of p q).kind ≡ false) → is_restoring r ≡ is_ordered (queue_of p q).kind
    by_kind (inl ordered) =
        let some = (limits.orders q _ h ordered).0 in
        let same : r.depth ≡ (queue_of p q).order = depth ∙ cond-true (is_ordered (queue_of p q).kind) (queue_of p q).order 0 ordered in
        lt-ltb 0 r.depth (omega arith) ∙ sym ordered
    by_kind (inr plain) =
        let same : r.depth ≡ 0 = depth ∙ cond-false (is_ordered (queue_of p q).kind) (queue_of p q).order 0 plain in
        ap (λ n. is_restoring (record r { depth = n })) same ∙ sym plain

pub restores_here : (a : Inside) (q : ℕ) → IsCore a → q < length a.shape.queues → is_restoring (order_at a.orders q) ≡ is_ordered (queue_of a.shape q).kind
restores_here a q core h = restoring_is a.shape (order_at a.orders q) q core.limits h (core.places.each q h).room

-- how many more are kept: one where the answer is a forward, in a buffer
abbrev pub kept_more : Bool → Option Event → ℕ
kept_more false f = 0
kept_more true None = 0
kept_more true (Some e) = 1

more_one : (b : Bool) (f : Option Event) → (b && is_some f) ≡ true → kept_more b f ≡ 1
more_one false f e = absurd cc
more_one true None e = absurd cc
more_one true (Some x) e = refl

more_none : (b : Bool) (f : Option Event) → (b && is_some f) ≡ false → kept_more b f ≡ 0
more_none false f e = refl
more_none true None e = refl
more_none true (Some x) e = absurd cc

more_kept : (f : Option Event) → length (option_to_list f) ≡ kept_more true f
more_kept None = refl
more_kept (Some x) = refl

more_least : (b : Bool) (f : Option Event) → kept_more b f ≤ length (events_of (outcome_of f))
more_least false f = omega arith
more_least true None = omega arith
more_least true (Some x) = omega arith

more_once : (b : Bool) (f : Option Event) → kept_more b f ≤ 1
more_once false f = omega arith
more_once true None = omega arith
more_once true (Some x) = omega arith

-- what an answer forwards
named_of : (n : ℕ) (f : Option Event) → All (λ (e : Event). e.queue < n) (events_of (outcome_of f)) → (e : Event) → f ≡ Some e → e.queue < n
named_of n f all e is = All-head (λ (x : Event). x.queue < n) e [] (subst (λ x. All (λ (y : Event). y.queue < n) (events_of (outcome_of x))) is all)

-- ---- the entries of the lanes

pub entries_here : (ls : List Entries) (i : ℕ) (old : Entries) → i < length ls → old ≡ get_or ls i old → entries_at (map entries_in ls) i ≡ entries_in old
entries_here ls i old h is = get_or-map entries_in ls i old [] h ∙ ap entries_in (sym is)

-- the oldest entry of a lane
pub oldest_entry : (ls : List Entries) (i : ℕ) (old : Entries) (y : Entry) → i < length ls → old ≡ get_or ls i old → slice_get old.entries 0 ≡ Some y → entry_at (map entries_in ls) i 0 ≡ Some y
oldest_entry ls i old y h is oldest = ap (λ (ys : List Entry). slice_get ys 0) (entries_here ls i old h is) ∙ oldest

first_at : (ys : List Entry) (y d : Entry) → slice_get ys 0 ≡ Some y → (0 < length ys) × (get_or ys 0 d ≡ y)
first_at [] y d e = absurd cc
first_at (x ∷ ys) y d e = (omega arith, cc)

-- ---- what an answer makes of the parts of a core

answered_length : (old new : Entries) (y : Entry) → slice_get old.entries 0 ≡ Some y → new.entries ≡ drop 1 old.entries → length (unanswered_in new) + 1 ≡ length (unanswered_in old)
answered_length old new y oldest items =
    let some : 0 < length old.entries = (first_at old.entries y y oldest).0 in
    ap (λ (ys : List Entry). length (map unplaced ys) + 1) items ∙ (ap (λ n. n + 1) (length-map (drop 1 old.entries) unplaced ∙ length-drop 1 old.entries) ∙ (omega arith ∙ sym (length-map old.entries unplaced)))

-- what the lanes have after it
pub lanes_answered : (a : Inside) (i : ℕ) (old new : Entries) → i < length a.lanes → old ≡ get_or a.lanes i old → new.entries ≡ drop 1 old.entries
    → map unanswered_in (set a.lanes i new) ≡ set (map unanswered_in a.lanes) i (drop 1 (unanswered_at (view_in a) i))
lanes_answered a i old new h is items =
    map-set unanswered_in a.lanes i new
    ∙ ap (set (map unanswered_in a.lanes) i) (ap (map unplaced) items ∙ (sym (drop-map unplaced 1 old.entries) ∙ sym (ap (drop 1) (unanswered_here a i old h is))))

popped_here : (ls : List Entries) (i : ℕ) (old new : Entries) → i < length ls → old ≡ get_or ls i old → new.entries ≡ drop 1 old.entries
    → map entries_in (set ls i new) ≡ set (map entries_in ls) i (drop 1 (entries_at (map entries_in ls) i))
popped_here ls i old new h is items = map-set entries_in ls i new ∙ ap (set (map entries_in ls) i) (items ∙ sym (ap (drop 1) (entries_here ls i old h is)))

-- the buffers after it
abbrev pub resolved_orders : List Reordering → Entry → Option Event → List Reordering
resolved_orders rs y f = set rs y.queue (resolved_in (order_at rs y.queue) y.place f)

record IsResolved (a : Inside) (i : ℕ) (y : Entry) (f : Option Event) (b : Bool) : Type 0 where
  restoring : is_restoring (order_at a.orders y.queue) ≡ b
  places : ArePlaces a.shape a.queues (resolved_orders a.orders y f) (set (map entries_in a.lanes) i (drop 1 (entries_at (map entries_in a.lanes) i))) (set a.extras.items i 0)
  kept : kept_of (resolved_in (order_at a.orders y.queue) y.place f).places ≡ kept_of (order_at a.orders y.queue).places + kept_more b f
  shown : (resolved_in (order_at a.orders y.queue) y.place f).places ≡ cond b (map (answer_place y.number (outcome_of f)) (order_at a.orders y.queue).places) (order_at a.orders y.queue).places

resolved_by : (a : Inside) (i : ℕ) (y : Entry) (f : Option Event) → IsCore a → i < length a.lanes → entry_at (map entries_in a.lanes) i 0 ≡ Some y → y.queue < length a.shape.queues
    → ((e : Event) → f ≡ Some e → e.queue < length a.shape.queues) → IsResolved a i y f (is_ordered (queue_of a.shape y.queue).kind)
resolved_by a i y f core h oldest there named = by_kind (is_ordered (queue_of a.shape y.queue).kind) refl
  where
    us : List (List Entry)
    us = map entries_in a.lanes

    r : Reordering
    r = order_at a.orders y.queue

    lane : i < length us
    lane = subst (λ n. i < n) (sym (length-map a.lanes entries_in)) h

    by_kind : (b : Bool) → is_ordered (queue_of a.shape y.queue).kind ≡ b → IsResolved a i y f b
    by_kind true ordered =
        let restoring : is_restoring r ≡ true = restores_here a y.queue core there ∙ ordered in
        let now : resolved_in r y.place f ≡ after_resolve r y.place f = cond-true (is_restoring r) (after_resolve r y.place f) r restoring in
        let order : IsOrder a.shape (kept_room (queue_of a.shape y.queue)) (waits_at a.queues y.queue) r = core.places.each y.queue there in
        let most : ℕ = added_beside a.extras.items i 0 in
        let stands : StandsIn r y most = core.places.held i 0 y oldest ordered in
        record {
          restoring = restoring;
          places = subst (λ s. ArePlaces a.shape a.queues (set a.orders y.queue s) (set us i (drop 1 (entries_at us i))) (set a.extras.items i 0)) (sym now)
              (answered_place a.shape a.queues a.orders us a.extras.items i y f core.places lane oldest ordered named);
          kept = ap (λ (s : Reordering). kept_of s.places) now ∙ (resolve_keeps a.shape (kept_room (queue_of a.shape y.queue)) (waits_at a.queues y.queue) r y most f order stands ∙ ap (λ n. kept_of r.places + n) (more_kept f));
          shown = ap (λ (s : Reordering). s.places) now ∙ resolve_answers a.shape (kept_room (queue_of a.shape y.queue)) (waits_at a.queues y.queue) r y most f order stands;
        }
    by_kind false plain =
        let restoring : is_restoring r ≡ false = restores_here a y.queue core there ∙ plain in
        let now : resolved_in r y.place f ≡ r = cond-false (is_restoring r) (after_resolve r y.place f) r restoring in
        let count = core.places.count in
        record {
          restoring = restoring;
          places = subst (λ rs. ArePlaces a.shape a.queues rs (set us i (drop 1 (entries_at us i))) (set a.extras.items i 0)) (sym (ap (set a.orders y.queue) now ∙ set-get_or a.orders y.queue (empty 0)))
              (answered_plain a.shape a.queues a.orders us a.extras.items i core.places lane);
          kept = ap (λ (s : Reordering). kept_of s.places) now ∙ omega arith;
          shown = ap (λ (s : Reordering). s.places) now;
        }

-- ---- the oldest event of a lane

module _ (a : Inside) (v : View) (i : ℕ) (y : Entry) (core : IsCore a) (same : view_in a ≡ v) (lane : i < lanes_of v.shape) (oldest : slice_get (lane_in a.lanes i).entries 0 ≡ Some y) where
  abbrev old : Entries
  old = lane_in a.lanes i

  h : i < length a.lanes
  h = lane_there a v i core same lane

  is : old ≡ get_or a.lanes i old
  is = lane_is a.lanes i h

  first : slice_get (unanswered_at (view_in a) i) 0 ≡ Some (unplaced y)
  first = first_here a i old y h is oldest

  pub oldest_first : oldest_at v i ≡ Some (unplaced y)
  oldest_first = subst (λ (u : View). oldest_at u i ≡ Some (unplaced y)) same first

  -- its queue is there, with its pins, its buffer and its places
  there : y.queue < length a.shape.queues
  there = oldest_known a.shape (map unanswered_in a.lanes) a.pins i (unplaced y) core.pins (in_view a i h) first

  pub oldest_queue : y.queue < length v.shape.queues
  oldest_queue = subst (λ (u : View). y.queue < length u.shape.queues) same there

  pub oldest_pins : y.queue < length a.pins
  oldest_pins = omega (arith, there, core.pins.count)

  pub oldest_order : y.queue < length a.orders
  oldest_order = omega (arith, there, core.places.count)

  pub oldest_places : y.queue < length v.places
  oldest_places = places_there a v y.queue core same oldest_queue

  -- its pin is there, and counts it
  pub oldest_has_pin : y.slot < length (pins_at a.pins y.queue) → 0 < (pin_in a.pins y.queue y.slot).count
  oldest_has_pin = oldest_pinned a.shape (map unanswered_in a.lanes) a.pins i (unplaced y) core.pins (in_view a i h) first

  -- it may be resolved
  pub oldest_is_open : is_restoring (order_at a.orders y.queue) ≡ true → IsTrue (is_open (place_at (order_at a.orders y.queue) y.place))
  oldest_is_open restoring =
      answer_is_open a.shape a.queues a.orders (map entries_in a.lanes) a.extras.items i 0 y core.places (oldest_entry a.lanes i old y h is oldest)
      (sym (restores_here a y.queue core there) ∙ restoring)

  -- something is inside
  pub some_inside : 1 ≤ a.inside
  some_inside =
      let le : length (unanswered_in old) ≤ sum_by (λ x. length (unanswered_in x)) a.lanes = subst (λ (l : Entries). length (unanswered_in l) ≤ sum_by (λ x. length (unanswered_in x)) a.lanes) (sym is) (get_or-le-sum_by (λ x. length (unanswered_in x)) a.lanes i old h) in
      let e : sum_by (λ (xs : List Held). length xs) (map unanswered_in a.lanes) ≡ sum_by (λ x. length (unanswered_in x)) a.lanes = sum_of_map (λ (xs : List Held). length xs) unanswered_in a.lanes in
      let some : 0 < length old.entries = (first_at old.entries y y oldest).0 in
      let mapped : length (unanswered_in old) ≡ length old.entries = length-map old.entries unplaced in
      omega arith

  -- where no order is restored, one is inside less
  pub answer_leaves_room : (o : Outcome) → is_ordered (queue_of v.shape y.queue).kind ≡ false → inside_of (after_answer v i o) < bound_of v.shape
  answer_leaves_room o plain = subst (λ (u : View). inside_of (after_answer u i o) < bound_of u.shape) same (here (subst (λ (u : View). is_ordered (queue_of u.shape y.queue).kind ≡ false) (sym same) plain))
    where
      w : View
      w = view_in a

      here : is_ordered (queue_of a.shape y.queue).kind ≡ false → inside_of (after_answer w i o) < bound_of a.shape
      here kind =
          let still : places_answered w (oldest_at w i) o ≡ w.places = ap (λ x. places_answered w x o) first ∙ cond-false (is_ordered (queue_of a.shape y.queue).kind) _ w.places kind in
          let keeps : kept_in (after_answer w i o) ≡ kept_in w = ap (sum_by kept_of) still in
          let held : sum_by (λ (xs : List Held). length xs) (set w.unanswered i (drop 1 (unanswered_at w i))) + length (unanswered_at w i) ≡ sum_by (λ (xs : List Held). length xs) w.unanswered + length (drop 1 (unanswered_at w i)) =
          sum_by-set (λ (xs : List Held). length xs) w.unanswered i (drop 1 (unanswered_at w i)) [] (in_view a i h) in
          let some : 0 < length (unanswered_at w i) = omega (arith, (first_at old.entries y y oldest).0, ap length (unanswered_here a i old h is), length-map old.entries unplaced) in
          let fewer : length (drop 1 (unanswered_at w i)) ≡ length (unanswered_at w i) - 1 = length-drop 1 (unanswered_at w i) in
          omega arith

  module _ (f : Option Event) (all : All (λ (e : Event). e.queue < length v.shape.queues) (events_of (outcome_of f))) where
    done : IsResolved a i y f (is_ordered (queue_of a.shape y.queue).kind)
    done = resolved_by a i y f core h (oldest_entry a.lanes i old y h is oldest) there (named_of (length a.shape.queues) f (subst (λ (u : View). All (λ (e : Event). e.queue < length u.shape.queues) (events_of (outcome_of f))) (sym same) all))

    -- ---- it is answered

    pub core_answers : (os : Vec SmallSet Global) (ps : List (List Pin)) (b : Bool) → IsOpened a.shape i a.open_slots.items os.items → entries_of v + length (events_of (outcome_of f)) ≤ 2 ^ 63 → ps ≡ with_pin a.pins y.queue y.slot (unpinned (pin_in a.pins y.queue y.slot))
        → (is_restoring (order_at a.orders y.queue) && is_some f) ≡ b
        → IsCore (record a { orders = resolved_orders a.orders y f; lanes = set a.lanes i (histories.entries_of (drop 1 old.entries) old.capacity); extras = with_item a.extras i 0; pins = ps; open_slots = os; inside = cond b a.inside (a.inside - 1); entries = cond b (a.entries + 1) a.entries })
    core_answers os ps b opening few unpins kept =
        let new : Entries = histories.entries_of (drop 1 old.entries) old.capacity in
        let counts = counted b kept in
        let counted_in = counts.0 in
        let entered = counts.1 in
        let still_few : entries_of (view_in a) + length (events_of (outcome_of f)) ≤ 2 ^ 63 = subst (λ (u : View). entries_of u + length (events_of (outcome_of f)) ≤ 2 ^ 63) (sym same) few in
        let kept_now : kept_more (is_restoring r) f ≡ kept_more ordered f = ap (λ k. kept_more k f) done.restoring in
        let least : kept_more ordered f ≤ length (events_of (outcome_of f)) = more_least ordered f in
        let once : kept_more ordered f ≤ 1 = more_once ordered f in
        let less : length (unanswered_in new) + 1 ≡ length (unanswered_in old) = answered_length old new y oldest refl in
        let held = held_sum a.lanes i old new h is in
        let keeps = kept_after a (record a { orders = resolved_orders a.orders y f; lanes = set a.lanes i new; extras = with_item a.extras i 0; pins = ps; inside = cond b a.inside (a.inside - 1); entries = cond b (a.entries + 1) a.entries }) y.queue (resolved_in r y.place f) refl oldest_order in
        let more = done.kept in
        core_with a a.queues (resolved_orders a.orders y f) (set a.lanes i new) (with_item a.extras i 0) ps (cond b a.inside (a.inside - 1)) (cond b (a.entries + 1) a.entries) os core (queues_here a core)
        (length-set a.lanes i new ∙ core.lanes) (room_set a.shape a.lanes i old new h is refl core.room) (length-set a.extras.items i 0 ∙ core.extras)
        (subst (λ us. ArePins a.shape us ps) (sym (lanes_answered a i old new h is refl))
        (subst (ArePins a.shape (set (map unanswered_in a.lanes) i (drop 1 (unanswered_at (view_in a) i)))) (sym unpins)
        (pins_answered a.shape (map unanswered_in a.lanes) a.pins i (unplaced y) core.pins (in_view a i h) first)))
        (subst (λ us. ArePlaces a.shape a.queues (resolved_orders a.orders y f) us (set a.extras.items i 0)) (sym (popped_here a.lanes i old new h is refl)) done.places)
        (opened a.shape a.lanes i new a.open_slots.items os.items opening core.open_slots)
        (record { inside = omega arith; within = omega arith; entries = omega arith; few = omega arith })
      where
        r : Reordering
        r = order_at a.orders y.queue

        ordered : Bool
        ordered = is_ordered (queue_of a.shape y.queue).kind

        counted : (c : Bool) → (is_restoring (order_at a.orders y.queue) && is_some f) ≡ c
            → (cond c a.inside (a.inside - 1) + 1 ≡ a.inside + kept_more (is_restoring (order_at a.orders y.queue)) f) × (cond c (a.entries + 1) a.entries ≡ a.entries + kept_more (is_restoring (order_at a.orders y.queue)) f)
        counted true keeps = let one = more_one (is_restoring (order_at a.orders y.queue)) f keeps in (omega arith, omega arith)
        counted false leaves =
            let none = more_none (is_restoring (order_at a.orders y.queue)) f leaves in
            let some = some_inside in
            (omega arith, omega arith)

    pub view_answers : (ps : List (List Pin)) (n m : ℕ)
        → view_in (record a { orders = resolved_orders a.orders y f; lanes = set a.lanes i (histories.entries_of (drop 1 old.entries) old.capacity); extras = with_item a.extras i 0; pins = ps; inside = n; entries = m }) ≡ after_answer v i (outcome_of f)
    view_answers ps n m =
        same_parts a.shape (map waiting_in a.queues) _ (map next_in a.queues) _ _ _ _ _ _ _ a.shut refl refl
        (map-set places_in a.orders y.queue (resolved_in r y.place f) ∙ (by_kind (is_ordered (queue_of a.shape y.queue).kind) refl done.shown ∙ sym (ap (λ x. places_answered (view_in a) x (outcome_of f)) first)))
        (lanes_answered a i old (histories.entries_of (drop 1 old.entries) old.capacity) h is refl) refl
        ∙ ap (λ u. after_answer u i (outcome_of f)) same
      where
        r : Reordering
        r = order_at a.orders y.queue

        here : places_at (view_in a) y.queue ≡ r.places
        here = places_here a y.queue core there

        by_kind : (b : Bool) → is_ordered (queue_of a.shape y.queue).kind ≡ b → (resolved_in r y.place f).places ≡ cond b (map (answer_place y.number (outcome_of f)) r.places) r.places
            → set (map places_in a.orders) y.queue (resolved_in r y.place f).places ≡ places_answered (view_in a) (Some (unplaced y)) (outcome_of f)
        by_kind true restored shown =
            ap (set (map places_in a.orders) y.queue) (shown ∙ sym (ap (map (answer_place y.number (outcome_of f))) here))
            ∙ sym (cond-true (is_ordered (queue_of a.shape y.queue).kind) _ (map places_in a.orders) restored)
        by_kind false plain shown =
            ap (set (map places_in a.orders) y.queue) (shown ∙ sym here)
            ∙ (set-get_or (map places_in a.orders) y.queue []
            ∙ sym (cond-false (is_ordered (queue_of a.shape y.queue).kind) _ (map places_in a.orders) plain))

    -- the same of the buffers and lanes that other calls left: so that no large goal has to be rewritten
    module _ (rs : List Reordering) (ls : List Entries) (orders : rs ≡ resolved_orders a.orders y f) (lanes : ls ≡ set a.lanes i (histories.entries_of (drop 1 old.entries) old.capacity)) where
      pub core_answered : (ss : Vec SmallSet Global) (ps : List (List Pin)) (b : Bool) → IsOpened a.shape i a.open_slots.items ss.items → entries_of v + length (events_of (outcome_of f)) ≤ 2 ^ 63 → ps ≡ with_pin a.pins y.queue y.slot (unpinned (pin_in a.pins y.queue y.slot))
          → (is_restoring (order_at a.orders y.queue) && is_some f) ≡ b
          → IsCore (record a { orders = rs; lanes = ls; extras = with_item a.extras i 0; pins = ps; open_slots = ss; inside = cond b a.inside (a.inside - 1); entries = cond b (a.entries + 1) a.entries })
      core_answered ss ps b opening few unpins kept =
          subst (λ os. IsCore (record a { orders = os; lanes = ls; extras = with_item a.extras i 0; pins = ps; open_slots = ss; inside = cond b a.inside (a.inside - 1); entries = cond b (a.entries + 1) a.entries })) (sym orders)
          (subst (λ xs. IsCore (record a { orders = resolved_orders a.orders y f; lanes = xs; extras = with_item a.extras i 0; pins = ps; open_slots = ss; inside = cond b a.inside (a.inside - 1); entries = cond b (a.entries + 1) a.entries })) (sym lanes)
          (core_answers ss ps b opening few unpins kept))

      pub view_answered : (ps : List (List Pin)) (n m : ℕ) → view_in (record a { orders = rs; lanes = ls; extras = with_item a.extras i 0; pins = ps; inside = n; entries = m }) ≡ after_answer v i (outcome_of f)
      view_answered ps n m =
          ap (λ os. view_in (record a { orders = os; lanes = ls; extras = with_item a.extras i 0; pins = ps; inside = n; entries = m })) orders
          ∙ (ap (λ xs. view_in (record a { orders = resolved_orders a.orders y f; lanes = xs; extras = with_item a.extras i 0; pins = ps; inside = n; entries = m })) lanes ∙ view_answers ps n m)
