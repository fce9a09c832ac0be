use Rattle.std.proofs.Common.{◌≡◌, ◌<◌, List, [], length, get_or, Vec, Global, ℕ, ap, sym, ◌∙◌, subst, arith}
use Rattle.std.proofs.lemmas.List.{get_or-map, length-map}
use Rattle.evt_types.specs.Plan.{Plan, PortPlan, flow_lanes, flow_links, linked_places}
use Rattle.evt_types.specs.Shape.{links_of_ports, lists_in, plan_in}
use Rattle.evt_types.specs.declared.flows.FlowLane.{FlowLane}
use Rattle.evt_types.proofs.shape.Shape.flow_links.Goals as goal

-- the list of a port
list_at :
    (lists : List (Vec ℕ Global)) (flows : List FlowLane) (ports : List PortPlan) (port : ℕ) (list : Vec ℕ Global) (d : PortPlan)
    → lists_in lists ≡ links_of_ports flows ports → port < length ports → list ≡ get_or lists port list → list.items ≡ linked_places flows (get_or ports port d).links
list_at lists flows ports port list d same there at =
    let count : length lists ≡ length ports = sym (length-map lists (λ (l : Vec ℕ Global). l.items)) ∙ (ap length same ∙ length-map ports (λ (q : PortPlan). linked_places flows q.links)) in
    let within : port < length lists = omega arith in
    ap (λ (l : Vec ℕ Global). l.items) at
    ∙ (sym (get_or-map (λ (l : Vec ℕ Global). l.items) lists port list [] within)
    ∙ (ap (λ ls. get_or ls port []) same ∙ get_or-map (λ (q : PortPlan). linked_places flows q.links) ports port d [] there))

pub returns : goal.returns
returns c =
    let there = subst (λ (p : Plan). c.args.port < length p.ports) (sym c.self.view_is) c.requires in
    c.deref.ensures.value
    ∙ (list_at c.self.inside.flow_links.items (flow_lanes (plan_in c.self.inside)) (plan_in c.self.inside).ports c.args.port c.index.result.now _ c.self.invariant.flow_links there c.index.ensures
    ∙ ap (λ (p : Plan). flow_links p c.args.port) c.self.view_is)
