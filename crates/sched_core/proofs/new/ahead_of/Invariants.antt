use Rattle.sched_core.specs.Members.{AreThose}
use Rattle.sched_core.specs.Service.{IsAhead}
use Rattle.sched_core.proofs.new.ahead_of.Given as goal

abbrev pub invariant-loop-other : goal.invariant-loop-other
invariant-loop-other l = AreThose (IsAhead l.shape l.queue) l.other l.ahead
