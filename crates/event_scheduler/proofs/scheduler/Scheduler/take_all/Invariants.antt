use Rattle.std.proofs.Common.{◌+◌, ◌*◌, ◌-◌, ◌≤◌}
use Rattle.event_scheduler.specs.Scheduler.{sight_of}
use Rattle.event_scheduler.proofs.Ending.{TakesFirst}
use Rattle.transcripts.specs.Standing.{kept_in}
use Rattle.event_scheduler.proofs.scheduler.Scheduler.take_all.Given as goal

abbrev pub invariant-loop-from : goal.invariant-loop-from
invariant-loop-from g l =
    TakesFirst l.from l.initial.self.core.shape.sweep l.taken (sight_of l.initial.self) (g.L.StepLog.steps l.initial.log) (sight_of l.self) (g.L.StepLog.steps l.log)
    × (g.L.StepLog.room l.initial.log + kept_in l.self.core ≤ g.L.StepLog.room l.log + kept_in l.initial.self.core + 2 * l.initial.self.core.shape.sweep * l.from)
    × (l.taken ≤ l.initial.self.core.shape.sweep * l.from)
    × (l.from ≤ l.count)

abbrev pub decreases-loop-from : goal.decreases-loop-from
decreases-loop-from g l = l.count - l.from
