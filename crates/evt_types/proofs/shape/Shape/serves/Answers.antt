use Rattle.std.proofs.Common.{◌≡◌, ◌-◌, ◌<◌, ◌≤◌, true, false, not, ◌&&◌, ◌==◌, length, slice_get, Some, ap, sym, ◌∙◌, subst, refl, arith, eq-eqb}
use Rattle.std.proofs.lemmas.Bool.{ne_eqb}
use Rattle.std.proofs.lemmas.List.{length-map}
use Rattle.std.proofs.lemmas.Option.{slice_get_read}
use Rattle.lists.specs.Lists.{has}
use Rattle.evt_types.specs.Plan.{Plan, PortPlan, flow_at, flow_lanes, has_flow_lanes, lanes_of, port_of, port_plan, serves}
use Rattle.evt_types.specs.Shape.{plan_in}
use Rattle.evt_types.proofs.FlowLanes.{lane_of_place, lanes_are, serves_port}
use Rattle.evt_types.proofs.Plans.{port_read}
use Rattle.evt_types.proofs.shape.Shape.serves.Goals as goal

pub index-flow-requires : goal.index-flow-requires
index-flow-requires c =
    let there = subst (λ (p : Plan). c.args.lane < lanes_of p) (sym c.self.view_is) c.requires.lane in
    let flows : length c.self.inside.flows.items ≡ length (flow_lanes (plan_in c.self.inside)) = ap length c.self.invariant.flows in
    omega (arith, length-map c.self.inside.ports.items port_plan, lanes_are (plan_in c.self.inside))

pub returns-then-is_linked : goal.returns-then-is_linked
returns-then-is_linked c =
    let own : c.args.lane < length c.self.inside.ports.items = omega arith in
    let there : c.args.lane < length (plan_in c.self.inside).ports = subst (λ n. c.args.lane < n) (sym (length-map c.self.inside.ports.items port_plan)) own in
    let port = port_read (plan_in c.self.inside) c.self.inside.ports.items c.args.lane c.index.result.now refl own c.index.ensures in
    let linked : has c.args.queue (port_of (plan_in c.self.inside) c.args.lane).links ≡ true =
    ap (λ (q : PortPlan). has c.args.queue q.links) port ∙ (ap (has c.args.queue) (sym c.deref.ensures.value) ∙ (sym c.is_linked.ensures ∙ c.if-is_linked.true)) in
    ap not (c.has_flow_lanes.ensures ∙ ap (λ (p : Plan). has_flow_lanes p c.args.queue) (sym c.self.view_is))
    ∙ (ap (λ b. b && not (has_flow_lanes (plan_in c.self.inside) c.args.queue)) (sym linked)
    ∙ (sym (serves_port (plan_in c.self.inside) c.args.lane c.args.queue c.args.slot there) ∙ ap (λ (p : Plan). serves p c.args.lane c.args.queue c.args.slot) c.self.view_is))

pub returns-else-is_linked : goal.returns-else-is_linked
returns-else-is_linked c =
    let own : c.args.lane < length c.self.inside.ports.items = omega arith in
    let there : c.args.lane < length (plan_in c.self.inside).ports = subst (λ n. c.args.lane < n) (sym (length-map c.self.inside.ports.items port_plan)) own in
    let port = port_read (plan_in c.self.inside) c.self.inside.ports.items c.args.lane c.index.result.now refl own c.index.ensures in
    let linked : has c.args.queue (port_of (plan_in c.self.inside) c.args.lane).links ≡ false =
    ap (λ (q : PortPlan). has c.args.queue q.links) port ∙ (ap (has c.args.queue) (sym c.deref.ensures.value) ∙ (sym c.is_linked.ensures ∙ c.if-is_linked.false)) in
    c.if-is_linked.false
    ∙ (ap (λ b. b && not (has_flow_lanes (plan_in c.self.inside) c.args.queue)) (sym linked)
    ∙ (sym (serves_port (plan_in c.self.inside) c.args.lane c.args.queue c.args.slot there) ∙ ap (λ (p : Plan). serves p c.args.lane c.args.queue c.args.slot) c.self.view_is))

pub returns-then-flow-queue : goal.returns-then-flow-queue
returns-then-flow-queue c =
    let past : length (plan_in c.self.inside).ports ≤ c.args.lane = omega (arith, length-map c.self.inside.ports.items port_plan) in
    let ports : c.len-ports.result ≡ length (plan_in c.self.inside).ports = omega (arith, length-map c.self.inside.ports.items port_plan) in
    let there = subst (λ (p : Plan). c.args.lane < lanes_of p) (sym c.self.view_is) c.requires.lane in
    let within : c.args.lane - c.len-ports.result < length c.self.inside.flows.items = omega (arith, lanes_are (plan_in c.self.inside), ap length c.self.invariant.flows) in
    let flow : flow_at (plan_in c.self.inside) c.args.lane ≡ Some c.index-flow.result.now =
    ap (λ n. slice_get (flow_lanes (plan_in c.self.inside)) (c.args.lane - n)) (sym ports)
    ∙ (ap (λ flows. slice_get flows (c.args.lane - c.len-ports.result)) (sym c.self.invariant.flows)
    ∙ slice_get_read c.self.inside.flows.items (length c.self.inside.flows.items) (c.args.lane - c.len-ports.result) c.index-flow.result.now refl within c.index-flow.ensures) in
    ap (λ b. b && (c.index-flow.result.now.slot == c.args.slot)) (sym (eq-eqb c.index-flow.result.now.queue c.args.queue c.if-flow-queue.true))
    ∙ (sym (lane_of_place (plan_in c.self.inside) c.args.lane c.args.queue c.args.slot c.index-flow.result.now past flow) ∙ ap (λ (p : Plan). serves p c.args.lane c.args.queue c.args.slot) c.self.view_is)

pub returns-else-flow-queue : goal.returns-else-flow-queue
returns-else-flow-queue c =
    let past : length (plan_in c.self.inside).ports ≤ c.args.lane = omega (arith, length-map c.self.inside.ports.items port_plan) in
    let ports : c.len-ports.result ≡ length (plan_in c.self.inside).ports = omega (arith, length-map c.self.inside.ports.items port_plan) in
    let there = subst (λ (p : Plan). c.args.lane < lanes_of p) (sym c.self.view_is) c.requires.lane in
    let within : c.args.lane - c.len-ports.result < length c.self.inside.flows.items = omega (arith, lanes_are (plan_in c.self.inside), ap length c.self.invariant.flows) in
    let flow : flow_at (plan_in c.self.inside) c.args.lane ≡ Some c.index-flow.result.now =
    ap (λ n. slice_get (flow_lanes (plan_in c.self.inside)) (c.args.lane - n)) (sym ports)
    ∙ (ap (λ flows. slice_get flows (c.args.lane - c.len-ports.result)) (sym c.self.invariant.flows)
    ∙ slice_get_read c.self.inside.flows.items (length c.self.inside.flows.items) (c.args.lane - c.len-ports.result) c.index-flow.result.now refl within c.index-flow.ensures) in
    ne_eqb c.index-flow.result.now.queue c.args.queue c.if-flow-queue.false ∙ (ap (λ b. b && (c.index-flow.result.now.slot == c.args.slot)) (sym (ne_eqb c.index-flow.result.now.queue c.args.queue c.if-flow-queue.false))
    ∙ (sym (lane_of_place (plan_in c.self.inside) c.args.lane c.args.queue c.args.slot c.index-flow.result.now past flow) ∙ ap (λ (p : Plan). serves p c.args.lane c.args.queue c.args.slot) c.self.view_is))
