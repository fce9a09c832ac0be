use Rattle.std.proofs.Common.{◌≡◌, ◌+◌, length, ap, ◌∙◌, arith}
use Rattle.std.proofs.lemmas.List.{length-map}
use Rattle.evt_types.specs.Plan.{flow_lanes, lanes_of, port_plan}
use Rattle.evt_types.specs.Shape.{plan_in}
use Rattle.evt_types.proofs.FlowLanes.{flows_few, lanes_are}
use Rattle.evt_types.proofs.shape.Shape.lanes.Goals as goal

pub returns-clause-value : goal.returns-clause-value
returns-clause-value c =
    let flows : length c.self.inside.flows.items ≡ length (flow_lanes (plan_in c.self.inside)) = ap length c.self.invariant.flows in
    let ports = length-map c.self.inside.ports.items port_plan in
    let sum : c.len.result + c.len-2.result ≡ lanes_of (plan_in c.self.inside) = omega (arith, lanes_are (plan_in c.self.inside)) in
    sum ∙ ap lanes_of c.self.view_is

pub returns-clause-few : goal.returns-clause-few
returns-clause-few c =
    let flows : length c.self.inside.flows.items ≡ length (flow_lanes (plan_in c.self.inside)) = ap length c.self.invariant.flows in
    let few = flows_few (plan_in c.self.inside) c.self.invariant.within in
    let ports = length-map c.self.inside.ports.items port_plan in
    let count = c.self.invariant.within.port_count in
    (omega arith, omega arith)
