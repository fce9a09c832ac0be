use Rattle.sched_core.specs.Links.{AreLinks}
use Rattle.sched_core.specs.Service.{AreAhead}
use Rattle.sched_core.proofs.new.queue_sets.Given as goal

abbrev pub invariant-loop-queue : goal.invariant-loop-queue
invariant-loop-queue l = AreLinks l.shape l.queue l.links.items × AreAhead l.shape l.queue l.ahead.items
