-- A core after an event is given: its view, and that what holds of each core holds of it.
use Rattle.std.proofs.Common.{◌≡◌, ℕ, ◌+◌, ◌<◌, Bool, true, false, cond, not, ◌==◌, ◌||◌, nat_lt, List, [], ◌∷◌, ◌++◌, length, map, set, get_or, filter, Contains, IsTrue, Some, ◌⊎◌, inl, inr, refl, sym, ap, ◌∙◌, subst, arith, ◌≤◌}
use Rattle.std.proofs.lemmas.Bool.{cases_Bool, cond-true, cond-false, lt-ltb, or_right}
use Rattle.std.proofs.lemmas.List.{get_or_default, length-set, length-map, length_push, map-set, map_push, set-get_or}
use Rattle.order_parts.proofs.Roomy.{lane_is}
use Rattle.order_parts.specs.Histories.{lane_in}
use Rattle.order_parts.specs.History.{entries_of}
use Rattle.std.proofs.lemmas.List.Elements.{All-set}
use Rattle.std.proofs.lemmas.List.Sums.{sum_by-append}
use Rattle.transcripts.proofs.ViewLists.{one_less, event_in_some}
use Rattle.transcripts.specs.Choice.{HasNoOther, IsOffer}
use Rattle.evt_types.specs.Plan.{queue_of, bound_of, slot_of, is_atomic, is_ordered, kept_room}
use Rattle.transcripts.specs.Standing.{View, event_in, slot_in, waiting_at, places_at, unanswered_at, after_give}
use Rattle.evt_types.specs.Place.{Place}
use Rattle.transcripts.specs.Transcript.{Held}
use Rattle.evt_types.specs.declared.event.Numbered.{Numbered}
use Rattle.order_parts.specs.History.{Entries}
use Rattle.order_parts.specs.Pins.{Pin, may_pin, pinned}
use Rattle.order_parts.specs.Reorder.{Reordering, empty, after_hand, next_number, open_place}
use Rattle.order_parts.specs.declared.history.Entry.{Entry}
use Rattle.sched_core.proofs.Answering.{entries_here, restoring_is}
use Rattle.sched_core.proofs.Busy.{waits_is}
use Rattle.sched_core.proofs.Cores.{held_sum, in_view, kept_after, next_here, next_sum, places_here, queue_here, room_set, same_parts, slots_set, unanswered_here, waiting_here, waiting_sum, waits_here, waits_here_is}
use Rattle.sched_core.proofs.OrderMoves.{given_place, given_plain}
use Rattle.sched_core.proofs.Pinned.{alone_may, pin_room, slot_within, pins_given}
use Rattle.sched_core.specs.Inner.{IsQueueOf, unplaced}
use Rattle.sched_core.specs.Ordered.{ArePlaces, entries_at, kept_of, places_in}
use Rattle.order_parts.specs.Orders.{order_at, has_place, handed, is_restoring}
use Rattle.sched_core.specs.Pinned.{ArePins}
use Rattle.order_parts.specs.QueuePins.{slots_of, pin_in, with_pin}
use Rattle.sched_core.proofs.OpenSlots.{fuller, still_open}
use Rattle.sched_core.specs.View.{waiting_in, next_in, unanswered_in, entries_in, view_in, IsCore}
use Rattle.parked_queue.specs.Waits.{Waits, AreWaits, without_number, waits_at}
use Rattle.sched_core.specs.declared.state.Core.TheInside.{Inside}

-- ---- the lanes and the pins

lanes_given : (a : Inside) (l : ℕ) (holder held : Entries) (y : Entry) → l < length a.lanes → holder ≡ get_or a.lanes l holder → held.entries ≡ holder.entries ++ y ∷ []
    → map unanswered_in (set a.lanes l held) ≡ set (map unanswered_in a.lanes) l (unanswered_at (view_in a) l ++ unplaced y ∷ [])
lanes_given a l holder held y k here given =
    map-set unanswered_in a.lanes l held
    ∙ ap (set (map unanswered_in a.lanes) l) (ap (map unplaced) given ∙ (map_push unplaced holder.entries y ∙ sym (ap (λ us. us ++ unplaced y ∷ []) (unanswered_here a l holder k here))))

-- the offer and the slot of its event, as the core has them
pub offer_here : (a : Inside) (v : View) (l i : ℕ) (w : Numbered) → view_in a ≡ v → IsOffer v l i w → IsOffer (view_in a) l i w
offer_here a v l i w same offered = subst (λ u. IsOffer u l i w) (sym same) offered

pub slot_here : (a : Inside) (v : View) (i s : ℕ) (w : Numbered) → view_in a ≡ v → s ≡ slot_of v.shape i w.event.flow → s ≡ slot_of a.shape i w.event.flow
slot_here a v i s w same is = is ∙ ap (λ (u : View). slot_of u.shape i w.event.flow) (sym same)

-- the lane of an offer may have one event more of the slot, and its pin can count it
pub offer_may : (a : Inside) (v : View) (l i s : ℕ) (w : Numbered) → IsCore a → view_in a ≡ v → IsOffer v l i w → s ≡ slot_of v.shape i w.event.flow → may_pin (pin_in a.pins i s) l ≡ true
offer_may a v l i s w core same offered slot =
    let offer : IsOffer (view_in a) l i w = offer_here a v l i w same offered in
    alone_may a.shape (map unanswered_in a.lanes) a.pins i s l core.pins offer.queue (λ atomic. subst (HasNoOther (view_in a) l i) (sym (slot_here a v i s w same slot)) (offer.alone atomic))

pub offer_room : (a : Inside) (v : View) (l i s : ℕ) (w : Numbered) → IsCore a → view_in a ≡ v → IsOffer v l i w → s ≡ slot_of v.shape i w.event.flow → (pin_in a.pins i s).count < 64
offer_room a v l i s w core same offered slot =
    let offer : IsOffer (view_in a) l i w = offer_here a v l i w same offered in
    pin_room a.shape (map unanswered_in a.lanes) a.pins i s l core.pins core.limits offer.queue offer.lane offer.room (offer_may a v l i s w core same offered slot)

-- ---- the buffers

-- the buffers after a number of the queue is handed out
abbrev pub handed_orders : List Reordering → ℕ → ℕ → List Reordering
handed_orders rs q n = set rs q (handed (order_at rs q) n)

-- there is a place for an event of an ordered queue
pub offer_place : (a : Inside) (v : View) (l i : ℕ) (w : Numbered) → IsCore a → view_in a ≡ v → IsOffer v l i w → IsTrue (has_place (order_at a.orders i))
offer_place a v l i w core same offered = by_kind (cases_Bool (is_ordered (queue_of a.shape i).kind))
  where
    r : Reordering
    r = order_at a.orders i

    offer : IsOffer (view_in a) l i w
    offer = subst (λ u. IsOffer u l i w) (sym same) offered

    depth : r.depth ≡ kept_room (queue_of a.shape i)
    depth = (core.places.each i offer.queue).room

    by_kind : (is_ordered (queue_of a.shape i).kind ≡ true) ⊎ (is_ordered (queue_of a.shape i).kind ≡ false) → IsTrue (has_place r)
    by_kind (inl ordered) =
        or_right (r.depth == 0) (nat_lt (length r.places) r.depth) (lt-ltb (length r.places) r.depth (omega (arith, ap length (places_here a i core offer.queue), offer.places ordered, depth, cond-true (is_ordered (queue_of a.shape i).kind) (queue_of a.shape i).order 0 ordered)))
    by_kind (inr plain) =
        let none : r.depth ≡ 0 = depth ∙ cond-false (is_ordered (queue_of a.shape i).kind) (queue_of a.shape i).order 0 plain in
        ap (λ n. (n == 0) || nat_lt (length r.places) n) none

record IsHanded (a : Inside) (l i : ℕ) (w : Numbered) (y : Entry) (b : Bool) : Type 0 where
  places : ArePlaces a.shape (set a.queues i (without_number (waits_at a.queues i) w.number)) (handed_orders a.orders i w.number) (set (map entries_in a.lanes) l (entries_at (map entries_in a.lanes) l ++ y ∷ [])) a.extras.items
  kept : kept_of (handed (order_at a.orders i) w.number).places ≡ kept_of (order_at a.orders i).places
  shown : (handed (order_at a.orders i) w.number).places ≡ cond b ((order_at a.orders i).places ++ open_place w.number ∷ []) (order_at a.orders i).places

handed_by : (a : Inside) (l i : ℕ) (w : Numbered) (y : Entry) → IsCore a → IsOffer (view_in a) l i w → Contains (waits_at a.queues i).waiting w → w.number < (waits_at a.queues i).next → l < length a.lanes
    → y.queue ≡ i → y.number ≡ w.number → (is_restoring (order_at a.orders i) ≡ true → y.place ≡ next_number (order_at a.orders i)) → IsHanded a l i w y (is_ordered (queue_of a.shape i).kind)
handed_by a l i w y core offer waits below k queue number place = by_kind (is_ordered (queue_of a.shape i).kind) refl
  where
    us : List (List Entry)
    us = map entries_in a.lanes

    r : Reordering
    r = order_at a.orders i

    lane : l < length us
    lane = subst (λ n. l < n) (sym (length-map a.lanes entries_in)) k

    depth : r.depth ≡ kept_room (queue_of a.shape i)
    depth = (core.places.each i offer.queue).room

    at_queue : (P : ℕ → Type 0) → P i → P y.queue
    at_queue P = subst P (sym queue)

    by_kind : (b : Bool) → is_ordered (queue_of a.shape i).kind ≡ b → IsHanded a l i w y b
    by_kind true ordered =
        let restoring : is_restoring r ≡ true = restoring_is a.shape r i core.limits offer.queue depth ∙ ordered in
        let now : handed r w.number ≡ after_hand r w.number = cond-true (is_restoring r) (after_hand r w.number) r restoring in
        let room : length r.places < r.depth = omega (arith, ap length (places_here a i core offer.queue), offer.places ordered, depth, cond-true (is_ordered (queue_of a.shape i).kind) (queue_of a.shape i).order 0 ordered) in
        record {
          places =
              subst (λ s. ArePlaces a.shape (set a.queues i (without_number (waits_at a.queues i) w.number)) (set a.orders i s) (set us l (entries_at us l ++ y ∷ [])) a.extras.items) (sym now)
              (subst (λ n. ArePlaces a.shape (set a.queues i (without_number (waits_at a.queues i) n)) (set a.orders i (after_hand r n)) (set us l (entries_at us l ++ y ∷ [])) a.extras.items) number
              (subst (λ q. ArePlaces a.shape (set a.queues q (without_number (waits_at a.queues q) y.number)) (set a.orders q (after_hand (order_at a.orders q) y.number)) (set us l (entries_at us l ++ y ∷ [])) a.extras.items) queue
              (given_place a.shape a.queues a.orders us a.extras.items l w y core.places (at_queue (λ q. q < length a.shape.queues) offer.queue) lane (at_queue (λ q. Contains (waits_at a.queues q).waiting w) waits) number
              (at_queue (λ q. w.number < (waits_at a.queues q).next) below) (at_queue (λ q. length (order_at a.orders q).places < (order_at a.orders q).depth) room) (at_queue (λ q. y.place ≡ next_number (order_at a.orders q)) (place restoring)))));
          kept = ap (λ (s : Reordering). kept_of s.places) now ∙ (sum_by-append (λ (x : Place). length x.forwards) r.places (open_place w.number ∷ []) ∙ omega arith);
          shown = ap (λ (s : Reordering). s.places) now;
        }
    by_kind false plain =
        let restoring : is_restoring r ≡ false = restoring_is a.shape r i core.limits offer.queue depth ∙ plain in
        let now : handed r w.number ≡ r = cond-false (is_restoring r) (after_hand r w.number) r restoring in
        record {
          places =
              subst (λ rs. ArePlaces a.shape (set a.queues i (without_number (waits_at a.queues i) w.number)) rs (set us l (entries_at us l ++ y ∷ [])) a.extras.items) (sym (ap (set a.orders i) now ∙ set-get_or a.orders i (empty 0)))
              (subst (λ n. ArePlaces a.shape (set a.queues i (without_number (waits_at a.queues i) n)) a.orders (set us l (entries_at us l ++ y ∷ [])) a.extras.items) number
              (subst (λ q. ArePlaces a.shape (set a.queues q (without_number (waits_at a.queues q) y.number)) a.orders (set us l (entries_at us l ++ y ∷ [])) a.extras.items) queue
              (given_plain a.shape a.queues a.orders us a.extras.items l y core.places (at_queue (λ q. q < length a.shape.queues) offer.queue) lane (at_queue (λ q. is_ordered (queue_of a.shape q).kind ≡ false) plain))));
          kept = ap (λ (s : Reordering). kept_of s.places) now;
          shown = ap (λ (s : Reordering). s.places) now;
        }

-- ---- the core

pub core_gives : (a : Inside) (i l : ℕ) (old new : Waits) (holder held : Entries) (w : Numbered) (y : Entry) (ps : List (List Pin)) → IsCore a → IsOffer (view_in a) l i w
    → i < length a.queues → old ≡ get_or a.queues i old → l < length a.lanes → holder ≡ get_or a.lanes l holder → Contains old.waiting w
    → new ≡ without_number old w.number → AreWaits new → held.entries ≡ holder.entries ++ y ∷ [] → held.capacity ≡ holder.capacity
    → y.queue ≡ i → y.number ≡ w.number → y.slot ≡ slot_of a.shape i w.event.flow → (is_restoring (order_at a.orders i) ≡ true → y.place ≡ next_number (order_at a.orders i))
    → ps ≡ with_pin a.pins i y.slot (pinned (pin_in a.pins i y.slot) l)
    → IsCore (record { shape = a.shape; queues = set a.queues i new; orders = handed_orders a.orders i w.number; lanes = set a.lanes l held; extras = a.extras; pins = ps; links = a.links; ahead = a.ahead; slot_lanes = a.slot_lanes; open_slots = a.open_slots; bound = a.bound; log_room = a.log_room; inside = a.inside; entries = a.entries; shut = a.shut })
core_gives a i l old new holder held w y ps core offer h is k here waits value sound_new given room queue number slot place pins =
    let sound = queue_here a i old core h is in
    let same : waits_at a.queues i ≡ old = waits_here_is a.queues i old h is in
    let fewer : length new.waiting + 1 ≡ length old.waiting = ap (λ (q : Waits). length q.waiting + 1) value ∙ one_less old.waiting w sound.waits.rising waits in
    let next : new.next ≡ old.next = ap (λ (q : Waits). q.next) value in
    let more : length (unanswered_in held) ≡ length (unanswered_in holder) + 1 = ap (λ ys. length (map unplaced ys)) given ∙ (length-map (holder.entries ++ y ∷ []) unplaced ∙ (length_push holder.entries y ∙ sym (ap (λ n. n + 1) (length-map holder.entries unplaced)))) in
    let below : w.number < old.next = subst (λ (u : Numbered). u.number < old.next) waits.2 (sound.waits.below waits.0 w waits.1) in
    let done = handed_by a l i w y core offer (subst (λ (q : Waits). Contains q.waiting w) (sym same) waits) (subst (λ (q : Waits). w.number < q.next) (sym same) below) k queue number place in
    let count = core.places.count in
    let there = offer.queue in
    let here_is : holder ≡ lane_in a.lanes l = here ∙ sym (get_or_default a.lanes l (entries_of [] 0) holder k) in
    let longer : length (lane_in a.lanes l).entries ≤ length held.entries = omega (arith, ap (λ (x : Entries). length x.entries) here_is, ap length given, length_push holder.entries y) in
    let keeps = kept_after a (record { shape = a.shape; queues = set a.queues i new; orders = handed_orders a.orders i w.number; lanes = set a.lanes l held; extras = a.extras; pins = ps; links = a.links; ahead = a.ahead; slot_lanes = a.slot_lanes; open_slots = a.open_slots; bound = a.bound; log_room = a.log_room; inside = a.inside; entries = a.entries; shut = a.shut }) i (handed (order_at a.orders i) w.number) refl (omega arith) in
    let still = done.kept in
    let in_queues = waiting_sum a.queues i old new h is in
    let numbers = next_sum a.queues i old new h is in
    let in_lanes = held_sum a.lanes l holder held k here in
    let inside = core.inside in
    let within = core.within in
    let entries = core.entries in
    let few = core.few in
    record {
      limits = core.limits;
      queues = length-set a.queues i new ∙ core.queues;
      lanes = length-set a.lanes l held ∙ core.lanes;
      extras = core.extras;
      sound = All-set (IsQueueOf (bound_of a.shape)) a.queues i new (record { room = ap (λ (q : Waits). q.room) value ∙ sound.room; waits = sound_new }) core.sound;
      slots = slots_set a.shape a.queues i old new h is (ap (λ (q : Waits). q.slots) value) core.slots;
      room = room_set a.shape a.lanes l holder held k here room core.room;
      pins =
          subst (λ us. ArePins a.shape us ps) (sym (lanes_given a l holder held y k here given))
          (subst (ArePins a.shape (set (map unanswered_in a.lanes) l (unanswered_at (view_in a) l ++ unplaced y ∷ []))) (sym (pins ∙ ap (λ q. with_pin a.pins q y.slot (pinned (pin_in a.pins q y.slot) l)) (sym queue)))
          (pins_given a.shape (map unanswered_in a.lanes) a.pins l (unplaced y) core.pins (in_view a l k) known within_slots may));
      inside = omega arith;
      within = omega arith;
      bound = core.bound;
      log_room = core.log_room;
      small = core.small;
      entries = omega arith;
      few = omega arith;
      links = core.links;
      ahead = core.ahead;
      slot_lanes = core.slot_lanes;
      open_slots = still_open a.shape a.lanes (set a.lanes l held) a.open_slots.items (fuller a.lanes l held k longer (room ∙ ap (λ (x : Entries). x.capacity) here_is)) core.open_slots;
      places =
          subst (λ q. ArePlaces a.shape (set a.queues i q) (handed_orders a.orders i w.number) (map entries_in (set a.lanes l held)) a.extras.items) (ap (λ q. without_number q w.number) same ∙ sym value)
          (subst (λ us. ArePlaces a.shape (set a.queues i (without_number (waits_at a.queues i) w.number)) (handed_orders a.orders i w.number) us a.extras.items)
          (sym (map-set entries_in a.lanes l held ∙ ap (set (map entries_in a.lanes) l) (given ∙ sym (ap (λ ys. ys ++ y ∷ []) (entries_here a.lanes l holder k here))))) done.places);
    }
  where
    known : y.queue < length a.shape.queues
    known = subst (λ q. q < length a.shape.queues) (sym queue) offer.queue

    within_slots : is_atomic (queue_of a.shape y.queue).kind ≡ true → y.slot < slots_of a.shape y.queue
    within_slots =
        subst (λ q. is_atomic (queue_of a.shape q).kind ≡ true → y.slot < slots_of a.shape q) (sym queue)
        (λ atomic. subst (λ s. s < slots_of a.shape i) (sym slot) (slot_within a.shape i w.event.flow core.limits offer.queue atomic))

    may : may_pin (pin_in a.pins y.queue y.slot) l ≡ true
    may = subst (λ q. may_pin (pin_in a.pins q y.slot) l ≡ true) (sym queue) (offer_may a (view_in a) l i y.slot w core refl offer slot)

pub view_gives : (a : Inside) (i l : ℕ) (old new : Waits) (holder held : Entries) (w : Numbered) (y : Entry) (ps : List (List Pin)) → IsCore a → IsOffer (view_in a) l i w
    → i < length a.queues → old ≡ get_or a.queues i old → l < length a.lanes → holder ≡ get_or a.lanes l holder → Contains old.waiting w
    → new ≡ without_number old w.number → held.entries ≡ holder.entries ++ y ∷ [] → unplaced y ≡ record { queue = i; number = w.number; slot = slot_of a.shape i w.event.flow }
    → (is_restoring (order_at a.orders i) ≡ true → y.place ≡ next_number (order_at a.orders i))
    → view_in (record { shape = a.shape; queues = set a.queues i new; orders = handed_orders a.orders i w.number; lanes = set a.lanes l held; extras = a.extras; pins = ps; links = a.links; ahead = a.ahead; slot_lanes = a.slot_lanes; open_slots = a.open_slots; bound = a.bound; log_room = a.log_room; inside = a.inside; entries = a.entries; shut = a.shut }) ≡ after_give (view_in a) l i w.number
view_gives a i l old new holder held w y ps core offer h is k here waits value given entry place =
    let n : ℕ = w.number in
    let v : View = view_in a in
    let found : event_in (waiting_at v i) n ≡ Some w.event = ap (λ ws. event_in ws n) (waiting_here a i old h is) ∙ event_in_some old.waiting w sound.waits.rising waits in
    same_parts a.shape _ _ _ _ _ _ _ _ a.extras.items a.extras.items a.shut
    (map-set waiting_in a.queues i new ∙ ap (set (map waiting_in a.queues) i) (ap (λ (q : Waits). q.waiting) value ∙ sym (ap (filter (λ (u : Numbered). not (u.number == n))) (waiting_here a i old h is))))
    (map-set next_in a.queues i new ∙ (ap (set (map next_in a.queues) i) (ap (λ (q : Waits). q.next) value ∙ sym (next_here a i old h is)) ∙ set-get_or (map next_in a.queues) i 0))
    (map-set places_in a.orders i (handed r n) ∙ by_kind (is_ordered (queue_of a.shape i).kind) refl done.shown)
    (lanes_given a l holder held y k here given
    ∙ ap (λ x. set (map unanswered_in a.lanes) l (unanswered_at v l ++ x ∷ [])) (entry ∙ ap (λ s. record { queue = i; number = n; slot = s }) (sym (ap (slot_in v i) found))))
    refl
  where
    r : Reordering
    r = order_at a.orders i

    sound : IsQueueOf (bound_of a.shape) old
    sound = queue_here a i old core h is

    same : waits_at a.queues i ≡ old
    same = waits_here_is a.queues i old h is

    below : w.number < old.next
    below = subst (λ (u : Numbered). u.number < old.next) waits.2 (sound.waits.below waits.0 w waits.1)

    done : IsHanded a l i w y (is_ordered (queue_of a.shape i).kind)
    done = handed_by a l i w y core offer (subst (λ (q : Waits). Contains q.waiting w) (sym same) waits) (subst (λ (q : Waits). w.number < q.next) (sym same) below) k (ap (λ (x : Held). x.queue) entry) (ap (λ (x : Held). x.number) entry) place

    at : places_at (view_in a) i ≡ r.places
    at = places_here a i core offer.queue

    by_kind : (b : Bool) → is_ordered (queue_of a.shape i).kind ≡ b → (handed r w.number).places ≡ cond b (r.places ++ open_place w.number ∷ []) r.places
        → set (map places_in a.orders) i (handed r w.number).places ≡ (after_give (view_in a) l i w.number).places
    by_kind true ordered shown =
        ap (set (map places_in a.orders) i) (shown ∙ sym (ap (λ xs. xs ++ open_place w.number ∷ []) at))
        ∙ sym (cond-true (is_ordered (queue_of a.shape i).kind) _ (map places_in a.orders) ordered)
    by_kind false plain shown =
        ap (set (map places_in a.orders) i) (shown ∙ sym at)
        ∙ (set-get_or (map places_in a.orders) i []
        ∙ sym (cond-false (is_ordered (queue_of a.shape i).kind) _ (map places_in a.orders) plain))

-- ---- a core by parts that are equal: so that no large goal has to be rewritten

abbrev pub with_parts : Inside → List Waits → List Reordering → List Entries → List (List Pin) → Inside
with_parts a qs rs ls ps = record a { queues = qs; orders = rs; lanes = ls; pins = ps }

module _ (a : Inside) (qs ws : List Waits) (rs os : List Reordering) (ls hs : List Entries) (ps : List (List Pin)) (queues : qs ≡ ws) (orders : rs ≡ os) (lanes : ls ≡ hs) where
  pub core_by_parts : IsCore (with_parts a ws os hs ps) → IsCore (with_parts a qs rs ls ps)
  core_by_parts core =
      subst (λ xs. IsCore (with_parts a xs rs ls ps)) (sym queues)
      (subst (λ xs. IsCore (with_parts a ws xs ls ps)) (sym orders) (subst (λ xs. IsCore (with_parts a ws os xs ps)) (sym lanes) core))

  pub view_by_parts : view_in (with_parts a qs rs ls ps) ≡ view_in (with_parts a ws os hs ps)
  view_by_parts =
      ap (λ xs. view_in (with_parts a xs rs ls ps)) queues
      ∙ (ap (λ xs. view_in (with_parts a ws xs ls ps)) orders ∙ ap (λ xs. view_in (with_parts a ws os xs ps)) lanes)

-- ---- the core that the code leaves

pub record HasGiven (left : Inside) (v : View) (l q n : ℕ) : Type 0 where
  pub core : IsCore left
  pub view : view_in left ≡ after_give v l q n

module _ (a : Inside) (v : View) (l q slot place : ℕ) (w : Numbered) (core : IsCore a) (same : view_in a ≡ v) (offered : IsOffer v l q w) (slot_is : slot ≡ slot_of v.shape q w.event.flow) where
  abbrev old : Waits
  old = waits_at a.queues q

  abbrev new : Waits
  new = without_number old w.number

  abbrev y : Entry
  y = record { queue = q; number = w.number; slot = slot; place = place }

  abbrev holder : Entries
  holder = lane_in a.lanes l

  abbrev held : Entries
  held = entries_of (holder.entries ++ y ∷ []) holder.capacity

  offer : IsOffer (view_in a) l q w
  offer = offer_here a v l q w same offered

  h : q < length a.queues
  h = omega (arith, offer.queue, core.queues)

  k : l < length a.lanes
  k = omega (arith, offer.lane, core.lanes)

  waits : Contains old.waiting w
  waits = waits_here a q old w h (waits_is a.queues q h) offer.waits

  slot_of_event : slot ≡ slot_of a.shape q w.event.flow
  slot_of_event = slot_here a v q slot w same slot_is

  pub given_out : (qs : List Waits) (rs : List Reordering) (ls : List Entries) (ps : List (List Pin)) → qs ≡ set a.queues q new → AreWaits new → rs ≡ handed_orders a.orders q w.number → (is_restoring (order_at a.orders q) ≡ true → place ≡ next_number (order_at a.orders q))
      → ls ≡ set a.lanes l held → ps ≡ with_pin a.pins q slot (pinned (pin_in a.pins q slot) l) → HasGiven (with_parts a qs rs ls ps) v l q w.number
  given_out qs rs ls ps queues sound orders place_is lanes pins =
      record {
        core = core_by_parts a qs (set a.queues q new) rs (handed_orders a.orders q w.number) ls (set a.lanes l held) ps queues orders lanes
            (core_gives a q l old new holder held w y ps core offer h (waits_is a.queues q h) k (lane_is a.lanes l k) waits refl sound refl refl refl refl slot_of_event place_is pins);
        view = view_by_parts a qs (set a.queues q new) rs (handed_orders a.orders q w.number) ls (set a.lanes l held) ps queues orders lanes
            ∙ (view_gives a q l old new holder held w y ps core offer h (waits_is a.queues q h) k (lane_is a.lanes l k) waits refl refl (ap (λ n. record { queue = q; number = w.number; slot = n }) slot_of_event) place_is
            ∙ ap (λ u. after_give u l q w.number) same);
      }
