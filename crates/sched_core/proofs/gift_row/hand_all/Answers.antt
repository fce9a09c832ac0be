use Rattle.std.proofs.Common.{◌≡◌, ◌+◌, ◌-◌, ◌%◌, ◌≤◌, true, ◌++◌, ◌∷◌, [], ℕ, IsTrue, List, ap, arith, length, rules, set, subst, sym, take, ◌∙◌}
use Rattle.std.proofs.lemmas.List.{length-set, take_more}
use Rattle.evt_types.specs.declared.event.Delivery.{Delivery}
use Rattle.evt_types.specs.declared.event.Event.{Event}
use Rattle.evt_types.specs.declared.shape.TheConstants.{MAX_DEPTH}
use Rattle.order_parts.specs.Dealing.{with_entry}
use Rattle.order_parts.specs.Histories.{lane_in}
use Rattle.order_parts.specs.History.{Entries, entries_of}
use Rattle.order_parts.specs.Orders.{handed, is_restoring, order_at}
use Rattle.order_parts.specs.Pins.{Pin, may_pin, pinned}
use Rattle.order_parts.specs.QueuePins.{pin_in, pins_at}
use Rattle.order_parts.specs.Reorder.{Reordering}
use Rattle.order_parts.specs.declared.history.Entry.{Entry}
use Rattle.sched_core.proofs.HandedRows.{counts_left, handed_push, places_left, plain_handed, room_left}
use Rattle.sched_core.specs.GiftRows.{AreHanded, pinned_on, slot_in_row}
use Rattle.sched_core.proofs.gift_row.hand_all.Goals as goal

pub returns-then-not-restores-clause-handed : goal.returns-then-not-restores-clause-handed
returns-then-not-restores-clause-handed c =
    let q : ℕ = c.args.queue in
    let ps : List (List Pin) = c.args.pins.now in
    let ls : List Entries = c.args.lanes.now in
    let pt : List Pin = pins_at c.push_row.new.pins q in
    let yt : List Entry = (lane_in c.push_row.new.self c.args.lane).entries in
    subst (λ x. AreHanded c.args.slots.count c.args.lane q c.args.orders.now ps ls (take c.push_row.result c.args.row.now) c.args.orders.now x c.push_row.new.self) (sym c.push_row.ensures.pins)
    (subst (AreHanded c.args.slots.count c.args.lane q c.args.orders.now ps ls (take c.push_row.result c.args.row.now) c.args.orders.now (set ps q pt)) (sym c.push_row.ensures.lanes)
    (plain_handed _ c.args.slots.count c.args.lane q (λ flow slot is. search rules) c.args.orders.now (sym c.restores.ensures ∙ c.if-not-restores.true) ps ls (take c.push_row.result c.args.row.now) pt yt c.requires.pins c.requires.lane c.push_row.ensures.handed))

pub loop-delivery-preserved : goal.loop-delivery-preserved
loop-delivery-preserved c =
    let was = c.loop-delivery.invariant in
    let n : ℕ = c.args.slots.count in
    let d : Delivery = c.delivery-item.result in
    let q : ℕ = c.args.queue in
    let l : ℕ = c.args.lane in
    let row : List Delivery = c.args.row.now in
    let i : ℕ = c.loop-delivery.delivery-index in
    let os : List Reordering = c.loop-delivery.orders in
    let ps : List (List Pin) = c.loop-delivery.pins in
    let ls : List Entries = c.loop-delivery.lanes in
    let slot : c.of-slot.result ≡ slot_in_row n d = c.of-slot.ensures.value ∙ ap (λ f. f % n) (c.flow.ensures ∙ ap (λ (e : Event). e.flow) c.packed.ensures) in
    let number : c.number-number.result ≡ d.number = c.number-number.ensures in
    let may : IsTrue (may_pin (pin_in ps q (slot_in_row n d)) l) = subst (λ s. IsTrue (may_pin (pin_in ps q s) l)) slot (sym c.if-not-may.ensures) in
    let rest : length row - i ≡ length row - (i + 1) + 1 = omega (arith, c.loop-delivery-test.true) in
    let more : take (i + 1) row ≡ take i row ++ d ∷ [] = take_more row i d c.loop-delivery-test.true ∙ ap (λ e. take i row ++ e ∷ []) (sym c.delivery-item.is) in
    let order : c.hand-place.new.self ≡ set os q (handed (order_at os q) d.number) = c.hand-place.ensures.handed ∙ ap (λ k. set os q (handed (order_at os q) k)) number in
    let pin : c.pin.new.self ≡ pinned_on ps q (slot_in_row n d) l = c.pin.ensures ∙ ap (λ s. pinned_on ps q s l) slot in
    let push : c.push.new.self ≡ with_entry ls l (record { queue = q; number = d.number; slot = slot_in_row n d; place = c.hand-place.result }) =
    c.push.ensures ∙ (ap (λ k. with_entry ls l (record { queue = q; number = k; slot = c.of-slot.result; place = c.hand-place.result })) number ∙ ap (λ s. with_entry ls l (record { queue = q; number = d.number; slot = s; place = c.hand-place.result })) slot)
    in
    record {
      handed =
          subst (λ ds. AreHanded n l q c.args.orders.now c.args.pins.now c.args.lanes.now ds c.hand-place.new.self c.pin.new.self c.push.new.self) (sym more)
          (subst (λ x. AreHanded n l q c.args.orders.now c.args.pins.now c.args.lanes.now (take i row ++ d ∷ []) x c.pin.new.self c.push.new.self) (sym order)
          (subst (λ x. AreHanded n l q c.args.orders.now c.args.pins.now c.args.lanes.now (take i row ++ d ∷ []) (set os q (handed (order_at os q) d.number)) x c.push.new.self) (sym pin)
          (subst (λ x. AreHanded n l q c.args.orders.now c.args.pins.now c.args.lanes.now (take i row ++ d ∷ []) (set os q (handed (order_at os q) d.number)) (pinned_on ps q (slot_in_row n d) l) x) (sym push)
          (handed_push n l q c.args.orders.now c.args.pins.now c.args.lanes.now (take i row) d os ps ls c.hand-place.result was.handed may c.hand-place.ensures.place))));
      count = ap (λ k. k + 1) was.count;
      order = omega (arith, was.order, ap length order, length-set os q (handed (order_at os q) d.number));
      pin = omega (arith, was.pin, ap length pin, length-set ps q (set (pins_at ps q) (slot_in_row n d) (pinned (pin_in ps q (slot_in_row n d)) l)));
      there = omega (arith, was.there, ap length push, length-set ls l (entries_of ((lane_in ls l).entries ++ record { queue = q; number = d.number; slot = slot_in_row n d; place = c.hand-place.result } ∷ []) (lane_in ls l).capacity));
      places =
          subst (λ x. is_restoring (order_at x q) ≡ true → length (order_at x q).places + (length row - (i + 1)) ≤ (order_at x q).depth) (sym order)
          (places_left os q d.number (length row - (i + 1)) was.order (subst (λ k. is_restoring (order_at os q) ≡ true → length (order_at os q).places + k ≤ (order_at os q).depth) rest was.places));
      counts =
          subst (λ x. (s : ℕ) → IsTrue (may_pin (pin_in x q s) l) → (pin_in x q s).count + (length row - (i + 1)) ≤ MAX_DEPTH) (sym pin)
          (counts_left ps q (slot_in_row n d) l (length row - (i + 1)) was.pin (subst (λ k. (s : ℕ) → IsTrue (may_pin (pin_in ps q s) l) → (pin_in ps q s).count + k ≤ MAX_DEPTH) rest was.counts) may);
      room =
          subst (λ x. length (lane_in x l).entries + (length row - (i + 1)) ≤ (lane_in x l).capacity) (sym push)
          (room_left ls l (length row - (i + 1)) (record { queue = q; number = d.number; slot = slot_in_row n d; place = c.hand-place.result }) was.there (subst (λ k. length (lane_in ls l).entries + k ≤ (lane_in ls l).capacity) rest was.room));
    }
