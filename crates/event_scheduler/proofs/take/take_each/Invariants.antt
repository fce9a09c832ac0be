use Rattle.std.proofs.Common.{◌≡◌, ◌+◌, ◌*◌, ◌≤◌, ◌<◌, length, take}
use Rattle.event_scheduler.specs.Scheduler.{Sight}
use Rattle.event_scheduler.specs.Taking.{Takes, only, with_core, with_taken}
use Rattle.transcripts.specs.Standing.{kept_in}
use Rattle.event_scheduler.proofs.take.take_each.Given as goal

abbrev pub invariant-loop-taken : goal.invariant-loop-taken
invariant-loop-taken g l =
    ((s : Sight) → l.lane < length s.taken
    → Takes (only l.lane l.taken) l.taken (with_core s l.initial.core l.initial.pocket l.initial.accepted_new) (g.L.StepLog.steps l.initial.log)
    (with_core (with_taken s l.lane (take l.taken l.replies)) l.core l.pocket l.accepted_new) (g.L.StepLog.steps l.log))
    × (l.core.shape ≡ l.initial.core.shape)
    × (g.L.StepLog.room l.initial.log + kept_in l.core ≤ g.L.StepLog.room l.log + kept_in l.initial.core + 2 * l.taken)
