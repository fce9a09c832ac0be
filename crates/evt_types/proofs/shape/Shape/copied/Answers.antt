use Rattle.std.proofs.Common.{◌≡◌, map, ap, ◌∙◌}
use Rattle.evt_types.specs.Plan.{flow_lanes, plan_of, port_plan}
use Rattle.evt_types.specs.Shape.{links_of_ports}
use Rattle.evt_types.proofs.Limits.{within}
use Rattle.evt_types.proofs.shape.Shape.copied.Goals as goal

pub invariant_of-result : goal.invariant_of-result
invariant_of-result c =
    let ports : map port_plan c.in_ok-ports.ports.items ≡ map port_plan c.args.draft.now.ports.items = c.in_ok-ports.ensures ∙ ap (map port_plan) c.deref-2.ensures.value in
    let linked = ap (λ flows. links_of_ports flows (map port_plan c.deref-4.result.now)) (c.deref-3.ensures.value ∙ c.in_ok-flows.ensures)
    ∙ ap (λ drafts. links_of_ports (flow_lanes (plan_of c.args.draft.now)) (map port_plan drafts)) c.deref-4.ensures.value in
    record {
      sound = rw (c.in_ok-queues.ensures.items, c.deref.ensures.value, ports) c.requires;
      within = rw (c.in_ok-queues.ensures.items, c.deref.ensures.value, ports) (within _ c.requires);
      flows = rw (c.in_ok-queues.ensures.items, c.deref.ensures.value, ports) c.in_ok-flows.ensures;
      flow_links = rw (c.in_ok-queues.ensures.items, c.deref.ensures.value, ports) (c.in_ok-flow_links.ensures ∙ linked);
    }
