use Rattle.std.proofs.Common.{◌-◌}
use Rattle.event_device.specs.Ends.{AreAdded}
use Rattle.event_device.proofs.lanes.add_lanes.Given as goal

abbrev pub invariant-loop-number : goal.invariant-loop-number
invariant-loop-number l = AreAdded l.shape l.from (l.number - l.from) l.initial.nears.items l.nears.items l.fars.items
