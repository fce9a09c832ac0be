use Rattle.std.proofs.Common.{◌≡◌, ◌≤◌, ◌-◌, length, Some, slice_index_or, sym, ap, ◌∙◌, arith}
use Rattle.std.proofs.lemmas.List.{length-map}
use Rattle.evt_types.proofs.FlowLanes.{flow_at_is, lanes_are}
use Rattle.evt_types.specs.Plan.{Plan, port_plan}
use Rattle.sched_core.proofs.OpenSlots.{flow_within}
use Rattle.sched_core.proofs.open_slots.flow_of.Goals as goal

pub bounds-flows-lane : goal.bounds-flows-lane
bounds-flows-lane c =
    omega (arith, c.requires, c.if-lane-ports.false, lanes_are c.args.shape.now, ap length c.flows.ensures.value, ap length c.ports-ports.ensures, length-map c.ports-ports.result.now port_plan)

pub offset_bounds-flows-lane : goal.offset_bounds-flows-lane
offset_bounds-flows-lane c = omega (arith, bounds-flows-lane c, c.flows.ensures.few)

pub returns-clause-flow : goal.returns-clause-flow
returns-clause-flow c =
    let p : Plan = c.args.shape.now in
    let ports : length c.ports-ports.result.now ≡ length p.ports = sym (length-map c.ports-ports.result.now port_plan) ∙ ap length c.ports-ports.ensures in
    let past : length p.ports ≤ c.args.lane = omega (arith, ports, c.if-lane-ports.false) in (
      past,
      flow_at_is p c.args.lane (record { queue = 0; slot = 0 }) past c.requires
          ∙ ap (λ fs. Some (slice_index_or fs (c.args.lane - length p.ports) (record { queue = 0; slot = 0 }))) (sym c.flows.ensures.value)
          ∙ ap (λ n. Some (slice_index_or c.flows.result.now (c.args.lane - n) (record { queue = 0; slot = 0 }))) (sym ports),
    )

pub returns-clause-within : goal.returns-clause-within
returns-clause-within c =
    flow_within c.args.shape.now c.args.lane (slice_index_or c.flows.result.now (c.args.lane - length c.ports-ports.result.now) (record { queue = 0; slot = 0 })) c.limit.ensures.within (returns-clause-flow c).1
