use Rattle.std.proofs.Common.{◌≡◌, map, take}
use Rattle.evt_types.specs.Plan.{port_plan}
use Rattle.evt_types.proofs.shape.copied_ports.Given as goal

abbrev pub invariant-loop-port : goal.invariant-loop-port
invariant-loop-port l = map port_plan l.copies.items ≡ map port_plan (take l.port-index l.ports)
