use Rattle.std.proofs.Common.{length, take}
use Rattle.timelines.proofs.Readings.{Follows}
use Rattle.timelines.proofs.links.Links.of.Given as goal

abbrev pub invariant-loop-step : goal.invariant-loop-step
invariant-loop-step l = Follows l.queues l.lanes (length l.log) (take l.step-index l.log) l.found
