use Rattle.sched_core.specs.Links.{Serves}
use Rattle.sched_core.specs.Members.{AreThose}
use Rattle.sched_core.proofs.new.links_of.Given as goal

abbrev pub invariant-loop-lane : goal.invariant-loop-lane
invariant-loop-lane l = AreThose (Serves l.shape l.queue) l.lane l.lanes
