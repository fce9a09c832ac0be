-- Events that a lane answers one after the other, each of which leaves its queue at once.
use Rattle.std.proofs.Common.{◌≡◌, ◌≢◌, ⊎_elim, ℕ, zero, suc, ◌+◌, ◌-◌, ◌<◌, ◌≤◌, Bool, true, false, List, [], ◌∷◌, ◌++◌, All, None, Some, Vec, Global, ap, append-nil, arith, drop, flat_map, length, map, refl, set, get_or, slice_get, slice_index, subst, sum_by, sym, take, ◌∙◌}
use Rattle.std.specs.Vec.{with_item, with_items}
use Rattle.std.proofs.lemmas.Bool.{cases_Bool, cond-false, cond-true}
use Rattle.std.proofs.lemmas.List.{drop-drop, get_or_read, get_or-set_same, length-set, length-take, map-set, set-get_or, with_items_is}
use Rattle.std.proofs.lemmas.List.Elements.{All-head, All-nil, All-tail}
use Rattle.std.proofs.lemmas.Option.{none-some, same_Some}
use Rattle.std.proofs.Math.Seq.{set-set}
use Rattle.lists.proofs.Lists.{and-false}
use Rattle.lists.proofs.Writes.{slice_get-drop_one}
use Rattle.evt_types.specs.Place.{Place}
use Rattle.evt_types.specs.Plan.{Plan, bound_of, is_ordered, kept_room, lanes_of, queue_of}
use Rattle.evt_types.specs.declared.event.Reply.{Reply}
use Rattle.evt_types.specs.declared.step.Outcome.{Outcome}
use Rattle.evt_types.specs.declared.step.Outcome.TheVariants.{Released}
use Rattle.evt_types.specs.declared.step.Step.{Step}
use Rattle.order_parts.proofs.Roomy.{lane_is}
use Rattle.order_parts.specs.Histories.{lane_in}
use Rattle.order_parts.specs.History as histories
use Rattle.order_parts.specs.History.{Entries}
use Rattle.order_parts.specs.InTurn.{AreInTurn}
use Rattle.order_parts.specs.Orders.{is_restoring, left_in, order_at, resolved_in}
use Rattle.order_parts.specs.Pins.{Pin, unpinned}
use Rattle.order_parts.specs.QueuePins.{pin_in, pins_at, with_pin}
use Rattle.order_parts.specs.Reorder.{Reordering, after_leave, after_resolve, empty, is_done, number_of, oldest_answered, resolved, without_first, without_oldest}
use Rattle.order_parts.specs.Unpinned.{AreHeldInTurn, IsOfQueue, without_entries, without_entry}
use Rattle.order_parts.specs.declared.history.Entry.{Entry}
use Rattle.parked_queue.specs.Waits.{waits_at}
use Rattle.sched_core.proofs.Answering.{core_answers, entries_here, lanes_answered, oldest_entry, oldest_first, oldest_order, oldest_queue, resolved_orders, restores_here, some_inside}
use Rattle.sched_core.proofs.AtFront.{bare, gone, kept_rest, leaves_now, leaving_one, next_none, staying_rest, waits_at_index}
use Rattle.sched_core.proofs.Cores.{core_with, in_view, kept_after, lane_there, places_here, queues_here, same_parts, unanswered_here}
use Rattle.sched_core.proofs.Leaving.{core_left, left_orders, with_orders}
use Rattle.sched_core.proofs.OpenLanes.{held_here}
use Rattle.sched_core.proofs.Pinned.{oldest_known, oldest_pinned, pins_answered}
use Rattle.sched_core.proofs.PlaceNumbers.{counted_on}
use Rattle.sched_core.specs.Inner.{unplaced}
use Rattle.sched_core.specs.OpenSlots.{IsOpened}
use Rattle.sched_core.specs.Ordered.{ArePlaces, IsOrder, StandsIn, added_beside, entry_at, kept_of, places_in}
use Rattle.sched_core.specs.Pinned.{ArePins, entries_at}
use Rattle.sched_core.specs.Rows.{LeaveInTurn, LeavesAlone}
use Rattle.sched_core.specs.View.{IsCore, entries_in, next_in, unanswered_in, view_in, waiting_in}
use Rattle.sched_core.specs.declared.state.Core.TheInside.{Inside}
use Rattle.small_set.specs.declared.set.SmallSet.{SmallSet}
use Rattle.step_log.specs.Rows.{release_steps}
use Rattle.transcripts.specs.Standing.{View, accepts_from, accepts_of, after, after_done, answer_place, answered_places, events_of, inside_of, kept_in, leaving, oldest_at, places_after, staying, unanswered_at}
use Rattle.transcripts.specs.Transcript.{Held}

-- ---- pins

-- the pins of the queue count each event of a lane, as one after the other is answered
pub held_in_turn : (es : List Entry) (p : Plan) (us : List (List Held)) (ps : List (List Pin)) (l q : ℕ) → ArePins p us ps → l < length us → q < length ps → entries_at us l ≡ map unplaced es → AreHeldInTurn q (pins_at ps q) es
held_in_turn [] p us ps l q pins h there are = tt
held_in_turn (y ∷ ys) p us ps l q pins h there are =
    let oldest : slice_get (entries_at us l) 0 ≡ Some (unplaced y) = ap (λ (xs : List Held). slice_get xs 0) are in
    let later : List (List Pin) = with_pin ps y.queue y.slot (unpinned (pin_in ps y.queue y.slot)) in
    let mine : y.queue ≡ q → later ≡ set ps q (without_entry (pins_at ps q) y) = λ of. ap (λ n. with_pin ps n y.slot (unpinned (pin_in ps n y.slot))) of in
    λ of. (
      subst (λ n. y.slot < length (pins_at ps n) → 0 < (pin_in ps n y.slot).count) of (oldest_pinned p us ps l (unplaced y) pins h oldest),
      subst (λ xs. AreHeldInTurn q xs ys) (ap (λ qs. pins_at qs q) (mine of) ∙ get_or-set_same ps q (without_entry (pins_at ps q) y) [] there)
          (held_in_turn ys p (set us l (drop 1 (entries_at us l))) later l q (pins_answered p us ps l (unplaced y) pins h oldest)
          (subst (λ n. l < n) (sym (length-set us l (drop 1 (entries_at us l)))) h)
          (subst (λ n. q < n) (sym (ap length (mine of) ∙ length-set ps q (without_entry (pins_at ps q) y))) there)
          (get_or-set_same us l (drop 1 (entries_at us l)) [] h ∙ ap (drop 1) are)),
    )

-- ---- slots that are open

pub opened_still : (p : Plan) (l : ℕ) (was now : List SmallSet) → IsOpened p l was now → IsOpened p l now now
opened_still p l was now opens = record { count = refl; there = opens.there; still = λ q slot d h has. has }

-- ---- a core

-- a core with another vector of the same counts
pub core_extras : (a : Inside) (es : Vec ℕ Global) → IsCore a → es.items ≡ a.extras.items → IsCore (record a { extras = es })
core_extras a es core same =
    core_with a a.queues a.orders a.lanes es a.pins a.inside a.entries a.open_slots core (queues_here a core) core.lanes core.room (ap length same ∙ core.extras) core.pins
    (subst (λ xs. ArePlaces a.shape a.queues a.orders (map entries_in a.lanes) xs) (sym same) core.places) core.open_slots
    (record { inside = core.inside; within = core.within; entries = core.entries; few = core.few })

-- the core without these entries, the oldest of the lane
abbrev pub without : Inside → ℕ → ℕ → Vec SmallSet Global → Vec ℕ Global → List Entry → Inside
without a l q os es ys =
    record a {
      orders = set a.orders q (left_in (order_at a.orders q) (length ys));
      lanes = set a.lanes l (histories.entries_of (drop (length ys) (lane_in a.lanes l).entries) (lane_in a.lanes l).capacity);
      extras = es;
      pins = set a.pins q (without_entries (pins_at a.pins q) ys);
      open_slots = os;
      inside = a.inside - length ys;
    }

pub record HasReleased (a : Inside) (l q : ℕ) (os : Vec SmallSet Global) (es : Vec ℕ Global) (ys : List Entry) : Type 0 where
  pub core : IsCore (without a l q os es ys)
  pub view : view_in (without a l q os es ys) ≡ after (view_in a) (release_steps l (length ys))
  pub leave : LeaveInTurn (view_in a) l q (map unplaced ys)
  pub inside : (a.inside - length ys) + length ys ≡ a.inside

-- Of an ordered queue: nothing was added beside the oldest of them, they have the oldest places in turn, and the place behind those isn't
-- answered.
pub record AreAtFront (a : Inside) (l q : ℕ) (ys : List Entry) : Type 0 where
  pub alone : slice_index a.extras.items l ≡ 0
  pub turn : AreInTurn q (order_at a.orders q) ys
  pub next : is_done (slice_get (order_at a.orders q).places (length ys)) ≡ false

-- the places of a queue that restores no order, and of another one
left_plain : (r : Reordering) (n : ℕ) → is_restoring r ≡ false → left_in r n ≡ r
left_plain r n plain = cond-false (is_restoring r) (without_first r n) r plain

left_restoring : (r : Reordering) (n : ℕ) → is_restoring r ≡ true → left_in r n ≡ without_first r n
left_restoring r n restoring = cond-true (is_restoring r) (without_first r n) r restoring

-- one, and then others
left_split : (r : Reordering) (n : ℕ) → left_in (left_in r 1) n ≡ left_in r (suc n)
left_split r n = by_kind (is_restoring r) refl
  where
    by_kind : (b : Bool) → is_restoring r ≡ b → left_in (left_in r 1) n ≡ left_in r (suc n)
    by_kind true restoring = ap (λ s. left_in s n) (left_restoring r 1 restoring) ∙ (left_restoring (without_oldest r) n restoring ∙ sym (left_restoring r (suc n) restoring))
    by_kind false plain = ap (λ s. left_in s n) (left_plain r 1 plain) ∙ (left_plain r n plain ∙ sym (left_plain r (suc n) plain))

-- ---- one

module _ (a : Inside) (l : ℕ) (y : Entry) (os : Vec SmallSet Global) (es : Vec ℕ Global) (core : IsCore a) (lane : l < lanes_of a.shape) (oldest : slice_get (lane_in a.lanes l).entries 0 ≡ Some y) (front : is_ordered (queue_of a.shape y.queue).kind ≡ true → AreAtFront a l y.queue (y ∷ [])) (opens : IsOpened a.shape l a.open_slots.items os.items) (zero_here : es.items ≡ set a.extras.items l 0) where
  there : y.queue < length a.shape.queues
  there = oldest_queue a (view_in a) l y core refl lane oldest

  here : l < length a.lanes
  here = lane_there a (view_in a) l core refl lane

  abbrev r : Reordering
  r = order_at a.orders y.queue

  restoring : is_restoring r ≡ is_ordered (queue_of a.shape y.queue).kind
  restoring = restores_here a y.queue core there

  first : oldest_at (view_in a) l ≡ Some (unplaced y)
  first = oldest_first a (view_in a) l y core refl lane oldest

  in_orders : y.queue < length a.orders
  in_orders = oldest_order a (view_in a) l y core refl lane oldest

  abbrev lane1 : Entries
  lane1 = histories.entries_of (drop 1 (lane_in a.lanes l).entries) (lane_in a.lanes l).capacity

  abbrev pins1 : List (List Pin)
  pins1 = with_pin a.pins y.queue y.slot (unpinned (pin_in a.pins y.queue y.slot))

  -- it is answered, and its place, if it has one, hasn't left
  abbrev answered : Inside
  answered = record a { orders = resolved_orders a.orders y None; lanes = set a.lanes l lane1; extras = with_item a.extras l 0; pins = pins1; open_slots = os; inside = a.inside - 1 }

  core_is : IsCore answered
  core_is = core_answers a (view_in a) l y core refl lane oldest None (All-nil _) os pins1 false opens (omega (arith, core.few)) refl (and-false (is_restoring r))

  -- of a queue that restores no order
  module _ (plain : is_ordered (queue_of a.shape y.queue).kind ≡ false) where
    plain_orders : set a.orders y.queue (left_in r 1) ≡ a.orders
    plain_orders = ap (set a.orders y.queue) (left_plain r 1 (restoring ∙ plain)) ∙ set-get_or a.orders y.queue (empty 0)

    plain_core : IsCore (record answered { orders = set a.orders y.queue (left_in r 1) })
    plain_core =
        subst (λ rs. IsCore (record answered { orders = rs }))
        (ap (set a.orders y.queue) (cond-false (is_restoring r) (after_resolve r y.place None) r (restoring ∙ plain) ∙ sym (left_plain r 1 (restoring ∙ plain)))) core_is

  -- of an ordered queue
  module _ (ordered : is_ordered (queue_of a.shape y.queue).kind ≡ true) where
    order : IsOrder a.shape (kept_room (queue_of a.shape y.queue)) (waits_at a.queues y.queue) r
    order = core.places.each y.queue there

    stands : StandsIn r y 0
    stands =
        subst (λ n. StandsIn r y n) (front ordered).alone
        (core.places.held l 0 y (oldest_entry a.lanes l (lane_in a.lanes l) y here (lane_is a.lanes l here) oldest) ordered)

    at_front : y.place ≡ number_of r 0
    at_front = ((front ordered).turn 0 y refl).1

    next : oldest_answered (drop 1 r.places) ≡ None
    next = next_none r.places (front ordered).next

    abbrev resolved_here : Place
    resolved_here = resolved stands.stands.shown None

    noted : order_at answered.orders y.queue ≡ after_resolve r y.place None
    noted = get_or-set_same a.orders y.queue (resolved_in r y.place None) (empty 0) in_orders ∙ cond-true (is_restoring r) (after_resolve r y.place None) r (restoring ∙ ordered)

    left_is : left_in r 1 ≡ without_oldest r
    left_is = left_restoring r 1 (restoring ∙ ordered)

    rest_is : set a.orders y.queue (left_in r 1) ≡ left_orders answered.orders y.queue
    rest_is =
        sym (set-set a.orders y.queue (resolved_in r y.place None) (after_leave (order_at answered.orders y.queue))
        ∙ ap (set a.orders y.queue) (ap after_leave noted ∙ (gone a.shape _ _ r y order stands at_front next None ∙ sym left_is)))

    ordered_core : IsCore (record answered { orders = set a.orders y.queue (left_in r 1) })
    ordered_core =
        let none : 0 ≡ length resolved_here.forwards = sym (ap length (append-nil stands.stands.shown.forwards ∙ bare a.shape _ _ r y order stands at_front next)) in
        let leaves : oldest_answered (order_at answered.orders y.queue).places ≡ Some resolved_here =
        ap (λ (s : Reordering). oldest_answered s.places) noted ∙ leaves_now a.shape _ _ r y order stands at_front next None in
        let same : IsCore (with_orders answered (set a.orders y.queue (left_in r 1)) (answered.inside - 0) (answered.entries - 0)) =
        core_left answered (view_in answered) y.queue resolved_here 0 core_is refl there leaves none (set a.orders y.queue (left_in r 1)) rest_is in
        let inside : answered.inside - 0 ≡ answered.inside = omega arith in
        let entries : answered.entries - 0 ≡ answered.entries = omega arith in
        subst (λ m. IsCore (with_orders answered (set a.orders y.queue (left_in r 1)) answered.inside m)) entries
        (subst (λ n. IsCore (with_orders answered (set a.orders y.queue (left_in r 1)) n (answered.entries - 0))) inside same)

  -- of either
  left_core : IsCore (record answered { orders = set a.orders y.queue (left_in r 1) })
  left_core = ⊎_elim (λ ordered. ordered_core ordered) (λ plain. plain_core plain) (cases_Bool (is_ordered (queue_of a.shape y.queue).kind))

  pub one_core : IsCore (without a l y.queue os es (y ∷ []))
  one_core = core_extras (record answered { orders = set a.orders y.queue (left_in r 1) }) es left_core zero_here

  -- what the view has then
  abbrev later_places : List (List Place)
  later_places = map places_in (set a.orders y.queue (left_in r 1))

  places_are : (o : Outcome) → places_after (view_in a) (oldest_at (view_in a) l) o ≡ later_places
  places_are o = ap (λ h. places_after (view_in a) h o) first ∙ ⊎_elim of_ordered of_plain (cases_Bool (is_ordered (queue_of a.shape y.queue).kind))
    where
      of_ordered : is_ordered (queue_of a.shape y.queue).kind ≡ true → places_after (view_in a) (Some (unplaced y)) o ≡ later_places
      of_ordered ordered =
          cond-true (is_ordered (queue_of a.shape y.queue).kind) (set (map places_in a.orders) y.queue (staying (answered_places (view_in a) y.queue y.number o))) (map places_in a.orders) ordered
          ∙ (ap (set (map places_in a.orders) y.queue)
          (ap (λ ps. staying (map (answer_place y.number o) ps)) (places_here a y.queue core there)
          ∙ (staying_rest a.shape _ _ r y (order ordered) (stands ordered) (at_front ordered) (next ordered) o ∙ sym (ap places_in (left_is ordered))))
          ∙ sym (map-set places_in a.orders y.queue (left_in r 1)))

      of_plain : is_ordered (queue_of a.shape y.queue).kind ≡ false → places_after (view_in a) (Some (unplaced y)) o ≡ later_places
      of_plain plain =
          cond-false (is_ordered (queue_of a.shape y.queue).kind) (set (map places_in a.orders) y.queue (staying (answered_places (view_in a) y.queue y.number o))) (map places_in a.orders) plain
          ∙ sym (ap (map places_in) (plain_orders plain))

  pub one_view : view_in (without a l y.queue os es (y ∷ [])) ≡ after_done (view_in a) l Released
  one_view =
      same_parts a.shape (map waiting_in a.queues) _ (map next_in a.queues) _ later_places _ (map unanswered_in (set a.lanes l lane1)) _ es.items _ a.shut refl refl
      (sym (places_are Released)) (lanes_answered a l (lane_in a.lanes l) lane1 here (lane_is a.lanes l here) refl) zero_here

  kept_one : kept_in (after_done (view_in a) l Released) ≡ kept_in (view_in a)
  kept_one =
      let all = kept_after a (record a { orders = set a.orders y.queue (left_in r 1) }) y.queue (left_in r 1) refl in_orders in
      let same : kept_of (left_in r 1).places ≡ kept_of r.places =
      ⊎_elim
      (λ ordered. ap (λ (s : Reordering). kept_of s.places) (left_is ordered) ∙ kept_rest a.shape _ _ r y (order ordered) (stands ordered) (at_front ordered) (next ordered))
      (λ plain. ap (λ (s : Reordering). kept_of s.places) (left_plain r 1 (restoring ∙ plain))) (cases_Bool (is_ordered (queue_of a.shape y.queue).kind)) in
      ap (sum_by kept_of) (places_are Released) ∙ omega (arith, all, same)

  -- the steps by which what a place has is accepted
  abbrev of_place : Place → List Step
  of_place x = accepts_from y.queue x.number x.forwards

  accepts_one : (o : Outcome) → accepts_of (view_in a) (Some (unplaced y)) o ≡ accepts_from y.queue y.number (events_of o)
  accepts_one o = ⊎_elim of_ordered of_plain (cases_Bool (is_ordered (queue_of a.shape y.queue).kind))
    where
      of_ordered : is_ordered (queue_of a.shape y.queue).kind ≡ true → accepts_of (view_in a) (Some (unplaced y)) o ≡ accepts_from y.queue y.number (events_of o)
      of_ordered ordered =
          cond-true (is_ordered (queue_of a.shape y.queue).kind) (flat_map of_place (leaving (answered_places (view_in a) y.queue y.number o))) (accepts_from y.queue y.number (events_of o)) ordered
          ∙ (ap (flat_map of_place)
          (ap (λ ps. leaving (map (answer_place y.number o) ps)) (places_here a y.queue core there) ∙ leaving_one a.shape _ _ r y (order ordered) (stands ordered) (at_front ordered) (next ordered) o)
          ∙ append-nil (accepts_from y.queue y.number (events_of o)))

      of_plain : is_ordered (queue_of a.shape y.queue).kind ≡ false → accepts_of (view_in a) (Some (unplaced y)) o ≡ accepts_from y.queue y.number (events_of o)
      of_plain plain = cond-false (is_ordered (queue_of a.shape y.queue).kind) (flat_map of_place (leaving (answered_places (view_in a) y.queue y.number o))) (accepts_from y.queue y.number (events_of o)) plain

  one_leaves : LeavesAlone (view_in a) l y.queue (unplaced y)
  one_leaves =
      record {
        oldest = first;
        queue = refl;
        accepts = accepts_one;
        done = λ o.
            ap (λ ps. record (view_in a) { places = ps; unanswered = set (map unanswered_in a.lanes) l (drop 1 (unanswered_at (view_in a) l)); extras = set a.extras.items l 0 })
            (places_are o ∙ sym (places_are Released));
        kept = kept_one;
      }

  some_here : 1 ≤ a.inside
  some_here = some_inside a (view_in a) l y core refl lane oldest

  pub one_released : HasReleased a l y.queue os es (y ∷ [])
  one_released = record { core = one_core; view = one_view; leave = (one_leaves, tt); inside = omega (arith, some_here) }

  -- and then others of the lane
  abbrev a1 : Inside
  a1 = without a l y.queue os es (y ∷ [])

  pub first_order : order_at a1.orders y.queue ≡ left_in r 1
  first_order = get_or-set_same a.orders y.queue (left_in r 1) (empty 0) in_orders

  pub one_more : (z : Entry) (zs : List Entry) → HasReleased a1 l y.queue os es (z ∷ zs) → HasReleased a l y.queue os es (y ∷ z ∷ zs)
  one_more z zs rest =
      record {
        core = subst IsCore joined rest.core;
        view = ap view_in (sym joined) ∙ (rest.view ∙ ap (λ v. after v (release_steps l (length (z ∷ zs)))) one_view);
        leave = (one_leaves, subst (λ v. LeaveInTurn v l y.queue (map unplaced (z ∷ zs))) one_view rest.leave);
        inside = omega (arith, some_here, rest.inside);
      }
    where
      one_and : 1 + length (z ∷ zs) ≡ length (y ∷ z ∷ zs)
      one_and = omega arith

      lanes_are : set a1.lanes l (histories.entries_of (drop (length (z ∷ zs)) (lane_in a1.lanes l).entries) (lane_in a1.lanes l).capacity)
          ≡ set a.lanes l (histories.entries_of (drop (length (y ∷ z ∷ zs)) (lane_in a.lanes l).entries) (lane_in a.lanes l).capacity)
      lanes_are =
          ap (λ (x : Entries). set a1.lanes l (histories.entries_of (drop (length (z ∷ zs)) x.entries) x.capacity)) (get_or-set_same a.lanes l lane1 (histories.entries_of [] 0) here)
          ∙ (set-set a.lanes l lane1 (histories.entries_of (drop (length (z ∷ zs)) (drop 1 (lane_in a.lanes l).entries)) (lane_in a.lanes l).capacity)
          ∙ ap (λ xs. set a.lanes l (histories.entries_of xs (lane_in a.lanes l).capacity)) (drop-drop (length (z ∷ zs)) 1 (lane_in a.lanes l).entries ∙ ap (λ n. drop n (lane_in a.lanes l).entries) one_and))

      pins_are : set a1.pins y.queue (without_entries (pins_at a1.pins y.queue) (z ∷ zs)) ≡ set a.pins y.queue (without_entries (pins_at a.pins y.queue) (y ∷ z ∷ zs))
      pins_are =
          ap (λ xs. set a1.pins y.queue (without_entries xs (z ∷ zs))) (get_or-set_same a.pins y.queue (without_entry (pins_at a.pins y.queue) y) [] (omega (arith, there, core.pins.count)))
          ∙ set-set a.pins y.queue (without_entry (pins_at a.pins y.queue) y) (without_entries (without_entry (pins_at a.pins y.queue) y) (z ∷ zs))

      orders_are : set a1.orders y.queue (left_in (order_at a1.orders y.queue) (length (z ∷ zs))) ≡ set a.orders y.queue (left_in r (length (y ∷ z ∷ zs)))
      orders_are =
          ap (λ s. set a1.orders y.queue (left_in s (length (z ∷ zs)))) first_order
          ∙ (set-set a.orders y.queue (left_in r 1) (left_in (left_in r 1) (length (z ∷ zs))) ∙ ap (set a.orders y.queue) (left_split r (length (z ∷ zs))))

      joined : without a1 l y.queue os es (z ∷ zs) ≡ without a l y.queue os es (y ∷ z ∷ zs)
      joined =
          ap (λ ls. record a1 { orders = set a1.orders y.queue (left_in (order_at a1.orders y.queue) (length (z ∷ zs))); lanes = ls; pins = set a1.pins y.queue (without_entries (pins_at a1.pins y.queue) (z ∷ zs)); inside = (a.inside - 1) - length (z ∷ zs) }) lanes_are
          ∙ (ap (λ ps. record a1 { orders = set a1.orders y.queue (left_in (order_at a1.orders y.queue) (length (z ∷ zs))); lanes = set a.lanes l (histories.entries_of (drop (length (y ∷ z ∷ zs)) (lane_in a.lanes l).entries) (lane_in a.lanes l).capacity); pins = ps; inside = (a.inside - 1) - length (z ∷ zs) }) pins_are
          ∙ (ap (λ rs. record a1 { orders = rs; lanes = set a.lanes l (histories.entries_of (drop (length (y ∷ z ∷ zs)) (lane_in a.lanes l).entries) (lane_in a.lanes l).capacity); pins = set a.pins y.queue (without_entries (pins_at a.pins y.queue) (y ∷ z ∷ zs)); inside = (a.inside - 1) - length (z ∷ zs) }) orders_are
          ∙ ap (λ n. record a1 { orders = set a.orders y.queue (left_in r (length (y ∷ z ∷ zs))); lanes = set a.lanes l (histories.entries_of (drop (length (y ∷ z ∷ zs)) (lane_in a.lanes l).entries) (lane_in a.lanes l).capacity); pins = set a.pins y.queue (without_entries (pins_at a.pins y.queue) (y ∷ z ∷ zs)); inside = n }) (omega arith)))

  pub first_lane : lane_in a1.lanes l ≡ lane1
  first_lane = get_or-set_same a.lanes l lane1 (histories.entries_of [] 0) here

  -- they are at the front then
  pub front_more : (z : Entry) (zs : List Entry) → is_ordered (queue_of a.shape y.queue).kind ≡ true → AreAtFront a l y.queue (y ∷ z ∷ zs) → AreAtFront a1 l y.queue (z ∷ zs)
  front_more z zs ordered all =
      record {
        alone = ap (λ xs. slice_index xs l) zero_here ∙ get_or-set_same a.extras.items l 0 0 (omega (arith, lane, core.extras));
        turn = λ k x at.
            let old = all.turn (suc k) x at in
            (old.0, old.1 ∙ (sym (counted_on r.first k) ∙ ap (λ s. number_of s k) (sym order_is)));
        next = ap (λ (s : Reordering). is_done (slice_get s.places (length (z ∷ zs)))) order_is ∙ (ap is_done (slice_get-drop_one r.places (length (z ∷ zs))) ∙ all.next);
      }
    where
      order_is : order_at a1.orders y.queue ≡ without_oldest r
      order_is = first_order ∙ left_restoring r 1 (restoring ∙ ordered)

-- ---- all of them

-- the one behind the oldest isn't answered
second_waits :
    (a : Inside) (l : ℕ) (y z : Entry) (zs : List Entry) → IsCore a → l < lanes_of a.shape → (lane_in a.lanes l).entries ≡ y ∷ z ∷ zs → z.queue ≡ y.queue → is_ordered (queue_of a.shape y.queue).kind ≡ true → z.place ≡ number_of (order_at a.orders y.queue) 1
    → is_done (slice_get (order_at a.orders y.queue).places 1) ≡ false
second_waits a l y z zs core lane are same ordered place =
    let here : l < length a.lanes = lane_there a (view_in a) l core refl lane in
    let there : y.queue < length a.shape.queues = oldest_queue a (view_in a) l y core refl lane (ap (λ xs. slice_get xs 0) are) in
    let at : entry_at (map entries_in a.lanes) l 1 ≡ Some z = ap (λ xs. slice_get xs 1) (entries_here a.lanes l (lane_in a.lanes l) here (lane_is a.lanes l here) ∙ are) in
    let stands = core.places.held l 1 z at (subst (λ n. is_ordered (queue_of a.shape n).kind ≡ true) (sym same) ordered) in
    waits_at_index a.shape (kept_room (queue_of a.shape y.queue)) (waits_at a.queues y.queue) (order_at a.orders y.queue) z _ 1 (core.places.each y.queue there)
    (subst (λ n. StandsIn (order_at a.orders n) z (added_beside a.extras.items l 1)) same stands) place (omega arith)

released_of : (ys : List Entry) (y : Entry) (rest : List Entry) (a : Inside) (l q : ℕ) (os : Vec SmallSet Global) (es : Vec ℕ Global) → IsCore a → l < lanes_of a.shape → (lane_in a.lanes l).entries ≡ y ∷ (ys ++ rest) → y.queue ≡ q → All (IsOfQueue q) ys
    → (is_ordered (queue_of a.shape y.queue).kind ≡ true → AreAtFront a l y.queue (y ∷ ys)) → IsOpened a.shape l a.open_slots.items os.items → es.items ≡ set a.extras.items l 0 → HasReleased a l q os es (y ∷ ys)
released_of [] y rest a l q os es core lane are of all front opens zeros =
    subst (λ n. HasReleased a l n os es (y ∷ [])) of
    (one_released a l y os es core lane (ap (λ xs. slice_get xs 0) are) front opens zeros)
released_of (z ∷ zs) y rest a l q os es core lane are of all front opens zeros =
    let oldest : slice_get (lane_in a.lanes l).entries 0 ≡ Some y = ap (λ xs. slice_get xs 0) are in
    let still : z.queue ≡ y.queue = All-head (IsOfQueue q) z zs all ∙ sym of in
    let others : All (IsOfQueue y.queue) zs = subst (λ n. All (IsOfQueue n) zs) (sym of) (All-tail (IsOfQueue q) z zs all) in
    let one : is_ordered (queue_of a.shape y.queue).kind ≡ true → AreAtFront a l y.queue (y ∷ []) =
    λ ordered. record {
      alone = (front ordered).alone;
      turn = λ k x at. (front ordered).turn k x (within_one k x at);
      next = second_waits a l y z (zs ++ rest) core lane are still ordered ((front ordered).turn 1 z refl).1;
    } in
    let left : (lane_in (a1 a l y os es core lane oldest one opens zeros).lanes l).entries ≡ z ∷ (zs ++ rest) =
    ap (λ (x : Entries). x.entries) (first_lane a l y os es core lane oldest one opens zeros) ∙ ap (drop 1) are in
    subst (λ n. HasReleased a l n os es (y ∷ z ∷ zs)) of
    (one_more a l y os es core lane oldest one opens zeros z zs
    (released_of zs z rest (a1 a l y os es core lane oldest one opens zeros) l y.queue os es (one_core a l y os es core lane oldest one opens zeros) lane left still others
    (λ ordered. subst (λ n. AreAtFront (a1 a l y os es core lane oldest one opens zeros) l n (z ∷ zs)) (sym still)
    (front_more a l y os es core lane oldest one opens zeros z zs (subst (λ n. is_ordered (queue_of a.shape n).kind ≡ true) still ordered) (front (subst (λ n. is_ordered (queue_of a.shape n).kind ≡ true) still ordered))))
    (opened_still a.shape l a.open_slots.items os.items opens) (zeros ∙ (sym (set-set a.extras.items l 0 0) ∙ ap (λ xs. set xs l 0) (sym zeros)))))
  where
    within_one : (k : ℕ) (x : Entry) → slice_get (y ∷ []) k ≡ Some x → slice_get (y ∷ z ∷ zs) k ≡ Some x
    within_one zero x at = at
    within_one (suc k) x at = absurd (none-some x at)

-- the oldest of them, so many
pub released :
    (ws rest : List Entry) (a : Inside) (l q : ℕ) (os : Vec SmallSet Global) (es : Vec ℕ Global) → 0 < length ws → IsCore a → l < lanes_of a.shape → (lane_in a.lanes l).entries ≡ ws ++ rest → All (IsOfQueue q) ws
    → (is_ordered (queue_of a.shape q).kind ≡ true → AreAtFront a l q ws) → IsOpened a.shape l a.open_slots.items os.items → es.items ≡ set a.extras.items l 0 → HasReleased a l q os es ws
released [] rest a l q os es some core lane are all front opens zeros = absurd (omega (arith, some))
released (y ∷ ys) rest a l q os es some core lane are all front opens zeros =
    let of : y.queue ≡ q = All-head (IsOfQueue q) y ys all in
    released_of ys y rest a l q os es core lane are of (All-tail (IsOfQueue q) y ys all)
    (subst (λ n. is_ordered (queue_of a.shape n).kind ≡ true → AreAtFront a l n (y ∷ ys)) (sym of) front) opens zeros

-- the oldest is among them
pub some_released :
    (n most : ℕ) (a : Inside) (v : View) (l q : ℕ) (held : Held) → IsCore a → view_in a ≡ v → l < lanes_of v.shape → oldest_at v l ≡ Some held → held.queue ≡ q → 0 < most
    → (n < most → (y : Entry) × (slice_get (lane_in a.lanes l).entries n ≡ Some y) × (y.queue ≢ q)) → 0 < n
some_released zero most a v l q held core same lane oldest of some last =
    let stop = last some in
    let first : unplaced stop.0 ≡ held = same_Some (unplaced stop.0) held (sym (oldest_first a v l stop.0 core same lane stop.1) ∙ oldest) in
    absurd (stop.2 (ap (λ (x : Held). x.queue) first ∙ of))
some_released (suc n) most a v l q held core same lane oldest of some last = omega arith

-- none was added beside the lane's oldest, as the code reads it
pub alone_here : (a : Inside) (v : View) (l x : ℕ) → IsCore a → view_in a ≡ v → l < lanes_of v.shape → x ≡ get_or a.extras.items l x → x ≡ 0 → slice_index a.extras.items l ≡ 0
alone_here a v l x core same lane read none =
    let mine : l < lanes_of a.shape = subst (λ (u : View). l < lanes_of u.shape) (sym same) lane in
    sym (get_or_read a.extras.items l x (omega (arith, mine, core.extras)) read 0) ∙ none

-- its queue is there
pub queue_known : (a : Inside) (v : View) (l q : ℕ) (held : Held) → IsCore a → view_in a ≡ v → l < lanes_of v.shape → oldest_at v l ≡ Some held → held.queue ≡ q → q < length v.shape.queues
queue_known a v l q held core same lane oldest of =
    let here : l < length a.lanes = lane_there a v l core same lane in
    let first : oldest_at (view_in a) l ≡ Some held = subst (λ (u : View). oldest_at u l ≡ Some held) (sym same) oldest in
    let there : held.queue < length a.shape.queues = oldest_known a.shape (map unanswered_in a.lanes) a.pins l held core.pins (in_view a l here) first in
    subst (λ (u : View). q < length u.shape.queues) same (subst (λ n. n < length a.shape.queues) of there)

-- how many they are, and which
pub unanswered_count : (a : Inside) (v : View) (l : ℕ) → IsCore a → view_in a ≡ v → l < lanes_of v.shape → length (unanswered_at v l) ≡ length (lane_in a.lanes l).entries
unanswered_count a v l core same lane = ap (λ (u : View). length (unanswered_at u l)) (sym same) ∙ held_here a l (lane_there a v l core same lane)

pub unanswered_are : (a : Inside) (v : View) (l : ℕ) → IsCore a → view_in a ≡ v → l < lanes_of v.shape → unanswered_at v l ≡ map unplaced (lane_in a.lanes l).entries
unanswered_are a v l core same lane =
    let here : l < length a.lanes = lane_there a v l core same lane in
    ap (λ (u : View). unanswered_at u l) (sym same) ∙ unanswered_here a l (lane_in a.lanes l) here (lane_is a.lanes l here)

-- as many events as a view has
pub held_few : (a : Inside) (v : View) (l n : ℕ) → IsCore a → view_in a ≡ v → l < lanes_of v.shape → n ≤ length (unanswered_at v l) → n ≤ length (lane_in a.lanes l).entries
held_few a v l n core same lane few = omega (arith, few, unanswered_count a v l core same lane)

-- no more replies than the lane has unanswered events
pub replies_held : (a : Inside) (v : View) (l m : ℕ) (rs : List Reply) → IsCore a → view_in a ≡ v → l < lanes_of v.shape → m ≤ length (lane_in a.lanes l).entries → length (take m rs) ≤ length (unanswered_at v l)
replies_held a v l m rs core same lane few = omega (arith, few, length-take m rs, unanswered_count a v l core same lane)

-- there is room for all of them
pub bounded : (a : Inside) (v : View) → IsCore a → view_in a ≡ v → inside_of v ≤ bound_of v.shape
bounded a v core same = subst (λ (u : View). inside_of u ≤ bound_of u.shape) same core.within

-- each slot has an event as it is answered
pub lane_in_turn : (a : Inside) (v : View) (l q : ℕ) (held : Held) → IsCore a → view_in a ≡ v → l < lanes_of v.shape → oldest_at v l ≡ Some held → held.queue ≡ q → AreHeldInTurn q (pins_at a.pins q) (lane_in a.lanes l).entries
lane_in_turn a v l q held core same lane oldest of =
    let here : l < length a.lanes = lane_there a v l core same lane in
    let first : oldest_at (view_in a) l ≡ Some held = subst (λ (u : View). oldest_at u l ≡ Some held) (sym same) oldest in
    let there : held.queue < length a.shape.queues = oldest_known a.shape (map unanswered_in a.lanes) a.pins l held core.pins (in_view a l here) first in
    held_in_turn (lane_in a.lanes l).entries a.shape (map unanswered_in a.lanes) a.pins l q core.pins (in_view a l here) (omega (arith, there, of, core.pins.count)) (unanswered_here a l (lane_in a.lanes l) here (lane_is a.lanes l here))

-- the slots are opened in the vector as they are in what it holds
pub opened_in : (p : Plan) (l : ℕ) (sets : Vec SmallSet Global) (was now : List SmallSet) → was ≡ sets.items → length was ≡ sets.len → IsOpened p l was now → IsOpened p l sets.items (with_items sets now).items
opened_in p l sets was now value len opens =
    subst (IsOpened p l sets.items) (sym (with_items_is sets now (opens.count ∙ len))) (subst (λ xs. IsOpened p l xs now) value opens)
