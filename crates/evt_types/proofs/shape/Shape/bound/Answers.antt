use Rattle.evt_types.specs.declared.shape.TheConstants.{MAX_PORT_REPLIES}
use Rattle.std.proofs.Common.{◌≡◌, ◌+◌, ◌*◌, ◌≤◌, length, ap, ◌∙◌, subst, arith}
use Rattle.std.specs.List.{sum_by}
use Rattle.evt_types.specs.Plan.{bound_of, flow_lanes}
use Rattle.evt_types.specs.Shape.{plan_in}
use Rattle.evt_types.proofs.FlowLanes.{bound_is, flows_few}
use Rattle.evt_types.proofs.Limits.{replies_few}
use Rattle.evt_types.proofs.Plans.{sum_of_ports}
use Rattle.evt_types.proofs.shape.Shape.bound.Goals as goal

pub replies_in-requires : goal.replies_in-requires
replies_in-requires c =
    let few = replies_few _ c.self.invariant.within in
    rw c.deref.ensures.value (subst (λ n. n ≤ MAX_PORT_REPLIES) (sum_of_ports (λ port. port.replies) c.self.inside.ports.items) few)

pub overflow_mul-result : goal.overflow_mul-result
overflow_mul-result c =
    let flows : length c.self.inside.flows.items ≡ length (flow_lanes (plan_in c.self.inside)) = ap length c.self.invariant.flows in
    let few = flows_few (plan_in c.self.inside) c.self.invariant.within in
    omega arith

pub overflow_add-result-2 : goal.overflow_add-result-2
overflow_add-result-2 c =
    let flows : length c.self.inside.flows.items ≡ length (flow_lanes (plan_in c.self.inside)) = ap length c.self.invariant.flows in
    let few = flows_few (plan_in c.self.inside) c.self.invariant.within in
    let limit = c.self.invariant.within.limit in
    omega arith

pub returns-clause-value : goal.returns-clause-value
returns-clause-value c =
    let flows : length c.self.inside.flows.items ≡ length (flow_lanes (plan_in c.self.inside)) = ap length c.self.invariant.flows in
    let is = bound_is (plan_in c.self.inside) in
    let sum = sum_of_ports (λ port. port.replies) c.self.inside.ports.items in
    let said = c.replies_in.ensures.value in
    let value : c.self.inside.limit + c.replies_in.result + 16 * c.len.result ≡ bound_of (plan_in c.self.inside) = omega (arith, ap (λ ports. sum_by (λ port. port.replies) ports) c.deref.ensures.value) in
    value ∙ ap bound_of c.self.view_is

pub returns-clause-small : goal.returns-clause-small
returns-clause-small c =
    let flows : length c.self.inside.flows.items ≡ length (flow_lanes (plan_in c.self.inside)) = ap length c.self.invariant.flows in
    let few = flows_few (plan_in c.self.inside) c.self.invariant.within in
    let limit = c.self.invariant.within.limit in
    omega arith
