use Rattle.std.proofs.Common.{length}
use Rattle.transcripts.specs.Standing.{places_at}
use Rattle.sched_core.proofs.Settling.{IsSettling}
use Rattle.sched_core.proofs.state.Core.settle.Given as goal

abbrev pub invariant-loop-mine : goal.invariant-loop-mine
invariant-loop-mine g l = IsSettling l.queue l.answered l.fn.self (g.L.StepLog.steps l.fn.log) (g.L.StepLog.room l.fn.log) l.self (g.L.StepLog.steps l.log) (g.L.StepLog.room l.log) l.passed

abbrev pub decreases-loop-mine : goal.decreases-loop-mine
decreases-loop-mine g l = length (places_at l.self l.queue)
