use Rattle.std.proofs.Common.{◌≡◌, ◌<◌, length, slice_get, ap, sym, ◌∙◌, arith}
use Rattle.std.proofs.lemmas.Option.{slice_get-get_or}
use Rattle.evt_types.specs.Plan.{is_linked_flow}
use Rattle.evt_types.specs.declared.flows.FlowLane.{FlowLane}
use Rattle.evt_types.proofs.FlowLanes.{linked_more, linked_same}
use Rattle.evt_types.proofs.flows.linked_flows.Goals.{then-is_linked+in_ok-push, else-is_linked}
use Rattle.evt_types.proofs.flows.linked_flows.Goals as goal

pub loop-place-preserved : goal.loop-place-preserved
loop-place-preserved c =
    let flow : FlowLane = record { queue = 0; slot = 0 } in
    let there : c.loop-place.place < length c.args.flows.now = omega arith in
    let tested : is_linked_flow c.args.links.now (slice_get c.args.flows.now c.loop-place.place) ≡ c.is_linked.result =
    ap (is_linked_flow c.args.links.now) (slice_get-get_or c.args.flows.now c.loop-place.place flow there) ∙ sym c.is_linked.ensures in
    elim c.if-is_linked.branch [
      | then-is_linked+in_ok-push w ↦
          ap (λ v. v.items) w.places-is ∙ (w.in_ok-push.ensures.items
          ∙ linked_more c.loop-place.places.items c.loop-place.place (λ place. is_linked_flow c.args.links.now (slice_get c.args.flows.now place)) (tested ∙ w.if-is_linked.true) c.loop-place.invariant)
      | else-is_linked w ↦
          ap (λ v. v.items) w.places-is
          ∙ linked_same c.loop-place.places.items c.loop-place.place (λ place. is_linked_flow c.args.links.now (slice_get c.args.flows.now place)) (tested ∙ w.if-is_linked.false) c.loop-place.invariant
    ]
