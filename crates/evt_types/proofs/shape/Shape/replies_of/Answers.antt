use Rattle.evt_types.specs.declared.shape.TheConstants.{MAX_DEPTH}
use Rattle.std.proofs.Common.{◌<◌, ◌≤◌, length, ap, sym, ◌∙◌, subst, refl, arith}
use Rattle.std.proofs.lemmas.List.{length-map}
use Rattle.evt_types.specs.Fault.{IsBetween}
use Rattle.evt_types.specs.Plan.{Plan, PortPlan, lanes_of, port_plan, replies_of}
use Rattle.evt_types.specs.Shape.{plan_in}
use Rattle.evt_types.proofs.FlowLanes.{replies_of_flow, replies_of_port}
use Rattle.evt_types.proofs.Plans.{port_at, port_read}
use Rattle.evt_types.proofs.shape.Shape.replies_of.Goals as goal

pub returns-then-lane-len-clause-value : goal.returns-then-lane-len-clause-value
returns-then-lane-len-clause-value c =
    let own : c.args.lane < length c.self.inside.ports.items = omega arith in
    let there : c.args.lane < length (plan_in c.self.inside).ports = subst (λ n. c.args.lane < n) (sym (length-map c.self.inside.ports.items port_plan)) own in
    sym (ap (λ (port : PortPlan). port.replies) (port_read (plan_in c.self.inside) c.self.inside.ports.items c.args.lane c.index.result.now refl own c.index.ensures))
    ∙ (sym (replies_of_port (plan_in c.self.inside) c.args.lane there) ∙ ap (λ (p : Plan). replies_of p c.args.lane) c.self.view_is)

pub returns-then-lane-len-clause-range : goal.returns-then-lane-len-clause-range
returns-then-lane-len-clause-range c =
    let own : c.args.lane < length c.self.inside.ports.items = omega arith in
    let there : c.args.lane < length (plan_in c.self.inside).ports = subst (λ n. c.args.lane < n) (sym (length-map c.self.inside.ports.items port_plan)) own in
    port_at (λ (port : PortPlan). IsBetween 1 MAX_DEPTH port.replies) c.self.inside.ports.items c.args.lane c.index.result.now there c.index.ensures c.self.invariant.within.replies

pub returns-else-lane-len-clause-value : goal.returns-else-lane-len-clause-value
returns-else-lane-len-clause-value c =
    let past : length (plan_in c.self.inside).ports ≤ c.args.lane = omega (arith, length-map c.self.inside.ports.items port_plan) in
    let there = subst (λ (p : Plan). c.args.lane < lanes_of p) (sym c.self.view_is) c.requires in
    sym (replies_of_flow (plan_in c.self.inside) c.args.lane past there) ∙ ap (λ (p : Plan). replies_of p c.args.lane) c.self.view_is
