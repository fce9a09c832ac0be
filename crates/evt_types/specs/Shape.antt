-- What contracts see of a shape, and what holds of each.
use Rattle.std.specs.Prelude.{◌≡◌, ℕ, List, map, None}
use Rattle.evt_types.specs.Fault.{fault_of, IsWithinLimits}
use Rattle.evt_types.specs.Plan.{Plan, PortPlan, port_plan, flow_lanes, linked_places}
use Rattle.std.specs.declared.alloc.Global.{Global}
use Rattle.std.specs.declared.vec.Vec.{Vec}
use Rattle.evt_types.specs.declared.flows.FlowLane.{FlowLane}
use Rattle.evt_types.specs.declared.shape.Shape.TheInside.{Inside}

-- the plan that the fields hold
abbrev pub plan_in : Inside → Plan
plan_in a =
    record { limit = a.limit; quantum = a.quantum; sweep = a.sweep; serving = a.serving; queues = a.queues.items; ports = map port_plan a.ports.items }

-- for each port the flow lanes of its links
abbrev pub links_of_ports : List FlowLane → List PortPlan → List (List ℕ)
links_of_ports flows ports = map (λ (port : PortPlan). linked_places flows port.links) ports

abbrev pub lists_in : List (Vec ℕ Global) → List (List ℕ)
lists_in lists = map (λ (list : Vec ℕ Global). list.items) lists

-- nothing is refused in it, and the flow lanes are the plan's
pub record IsChecked (a : Inside) : Type 0 where
  pub sound : fault_of (plan_in a) ≡ None
  pub within : IsWithinLimits (plan_in a)
  pub flows : a.flows.items ≡ flow_lanes (plan_in a)
  pub flow_links : lists_in a.flow_links.items ≡ links_of_ports (flow_lanes (plan_in a)) (plan_in a).ports
