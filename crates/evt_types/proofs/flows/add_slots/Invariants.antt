use Rattle.std.proofs.Common.{◌≡◌, ◌++◌}
use Rattle.evt_types.specs.Plan.{slot_lanes}
use Rattle.evt_types.proofs.flows.add_slots.Given as goal

abbrev pub invariant-loop-slot : goal.invariant-loop-slot
invariant-loop-slot l = l.flows.items ≡ l.initial.flows.items ++ slot_lanes l.queue l.slot
