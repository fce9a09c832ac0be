use Rattle.run_counts.specs.Waiting.{AreWorksOf}
use Rattle.run_counts.proofs.counted.counts_of.Given as goal

abbrev pub invariant-loop-queue : goal.invariant-loop-queue
invariant-loop-queue g l = AreWorksOf (g.L.StepLog.steps l.log) l.queue l.works.items
