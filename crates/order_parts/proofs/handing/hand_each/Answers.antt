use Rattle.std.proofs.Common.{◌≡◌, ◌+◌, ◌-◌, ◌<◌, ◌≤◌, ◌^◌, [], ◌∷◌, ◌++◌, ℕ, IsTrue, ap, arith, length, subst, sym, ◌∙◌}
use Rattle.std.proofs.lemmas.List.{length_push}
use Rattle.evt_types.specs.declared.event.Delivery.{Delivery}
use Rattle.evt_types.specs.declared.event.Event.{Event}
use Rattle.evt_types.specs.declared.shape.TheConstants.{MAX_DEPTH}
use Rattle.order_parts.specs.HandedRow.{OfFlows, with_pinned}
use Rattle.order_parts.specs.History.{Entries}
use Rattle.order_parts.specs.Pins.{may_pin, pin_at}
use Rattle.order_parts.proofs.HandedOn.{counts_less, handed_next, of_flow, refused}
use Rattle.order_parts.proofs.handing.hand_each.Goals as goal

pub returns-then-not-pin_slot-clause-last : goal.returns-then-not-pin_slot-clause-last
returns-then-not-pin_slot-clause-last g c less =
    let flow : c.flow.result ≡ c.delivery-item.result.event.flow = c.flow.ensures ∙ ap (λ (e : Event). e.flow) c.packed.ensures in
    let fits : c.flow.result < 2 ^ 32 = omega (arith, c.flow.ensures, c.packed.result.flow_fits) in
    refused (OfFlows (goal.F-post g c.args.slot_of)) c.args.lane c.args.queue c.args.row.now c.loop-delivery.delivery-index c.loop-delivery.count c.delivery-item.result c.slot_of-slot.result c.loop-delivery.pins c.pin_slot.new.pins
    c.loop-delivery.invariant.count c.loop-delivery-test.true c.delivery-item.is
    (of_flow (goal.F-post g c.args.slot_of) c.flow.result c.delivery-item.result.event.flow c.slot_of-slot.result flow fits c.slot_of-slot.ensures)
    (sym c.pin_slot.ensures.value ∙ c.if-not-pin_slot.true) (c.pin_slot.ensures.same c.if-not-pin_slot.true)

pub loop-delivery-preserved : goal.loop-delivery-preserved
loop-delivery-preserved g c =
    let was = c.loop-delivery.invariant in
    let d : Delivery = c.delivery-item.result in
    let slot : ℕ = c.slot_of-slot.result in
    let l : ℕ = c.args.lane in
    let rest : length c.args.row.now - c.loop-delivery.delivery-index ≡ length c.args.row.now - (c.loop-delivery.delivery-index + 1) + 1 = omega (arith, c.loop-delivery-test.true) in
    let flow : c.flow.result ≡ d.event.flow = c.flow.ensures ∙ ap (λ (e : Event). e.flow) c.packed.ensures in
    let fits : c.flow.result < 2 ^ 32 = omega (arith, c.flow.ensures, c.packed.result.flow_fits) in
    let may : IsTrue (may_pin (pin_at c.loop-delivery.pins slot) l) = sym c.pin_slot.ensures.value ∙ c.if-not-pin_slot.false in
    let pins : c.pin_slot.new.pins ≡ with_pinned c.loop-delivery.pins slot l = c.pin_slot.ensures.pinned c.if-not-pin_slot.false in
    let push = c.push.ensures in
    record {
      handed =
          handed_next (OfFlows (goal.F-post g c.args.slot_of)) l c.args.queue c.args.pins.now c.args.history.now.entries c.args.row.now c.loop-delivery.delivery-index d slot c.loop-delivery.pins c.loop-delivery.history.entries c.pin_slot.new.pins c.push.new.self.entries
          c.loop-delivery-test.true c.delivery-item.is was.handed
          (of_flow (goal.F-post g c.args.slot_of) c.flow.result d.event.flow slot flow fits c.slot_of-slot.ensures) may pins
          (ap (λ (h : Entries). h.entries) push ∙ ap (λ k. c.loop-delivery.history.entries ++ (record { queue = c.args.queue; number = k; slot = slot; place = 0 }) ∷ []) c.number.ensures);
      capacity = ap (λ (h : Entries). h.capacity) push ∙ was.capacity;
      count = ap (λ k. k + 1) was.count;
      counts =
          subst (λ x. (s : ℕ) → IsTrue (may_pin (pin_at x s) l) → (pin_at x s).count + (length c.args.row.now - (c.loop-delivery.delivery-index + 1)) ≤ MAX_DEPTH) (sym pins)
          (counts_less c.loop-delivery.pins slot l (length c.args.row.now - (c.loop-delivery.delivery-index + 1))
          (subst (λ k. (s : ℕ) → IsTrue (may_pin (pin_at c.loop-delivery.pins s) l) → (pin_at c.loop-delivery.pins s).count + k ≤ MAX_DEPTH) rest was.counts) may);
      room =
          let room = was.room in
          let long = ap (λ (h : Entries). length h.entries) push ∙ length_push c.loop-delivery.history.entries (record { queue = c.args.queue; number = c.number.result; slot = slot; place = 0 }) in
          let capacity = ap (λ (h : Entries). h.capacity) push in
          omega (arith, room, long, capacity, rest);
    }
