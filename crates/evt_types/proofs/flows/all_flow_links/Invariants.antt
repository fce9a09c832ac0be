use Rattle.std.proofs.Common.{◌≡◌, map, take}
use Rattle.evt_types.specs.Plan.{port_plan}
use Rattle.evt_types.specs.Shape.{links_of_ports, lists_in}
use Rattle.evt_types.proofs.flows.all_flow_links.Given as goal

abbrev pub invariant-loop-port : goal.invariant-loop-port
invariant-loop-port l = lists_in l.lists.items ≡ links_of_ports l.flows (map port_plan (take l.port-index l.ports))
