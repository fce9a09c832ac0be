use Rattle.std.proofs.Common.{◌≡◌, sum_by, take}
use Rattle.sched_core.proofs.Counted.{of_queue}
use Rattle.sched_core.proofs.state.Core.unanswered_of.Given as goal

abbrev pub invariant-loop-lane : goal.invariant-loop-lane
invariant-loop-lane l = l.count ≡ sum_by (of_queue l.queue) (take l.lane l.self.unanswered)
