use Rattle.std.proofs.Common.{◌≡◌, ◌+◌, ◌*◌, ◌-◌, ◌^◌, ◌≤◌, ◌<◌, ℕ, length, take}
use Rattle.event_scheduler.specs.Scheduler.{Sight}
use Rattle.event_scheduler.specs.Taking.{Takes, only, with_core, with_taken}
use Rattle.transcripts.specs.Standing.{kept_in}
use Rattle.event_scheduler.proofs.take.take_rows.Given as goal

abbrev pub invariant-loop-taken : goal.invariant-loop-taken
invariant-loop-taken g l =
    ((s : Sight) (pocket : ℕ) → pocket < 2 ^ 64 → l.lane < length s.taken
    → Takes (only l.lane l.taken) l.taken (with_core s l.initial.core pocket l.initial.accepted_new) (g.L.StepLog.steps l.initial.log)
    (with_core (with_taken s l.lane (take l.taken l.replies)) l.core pocket l.accepted_new) (g.L.StepLog.steps l.log))
    × (l.taken ≤ length l.replies)
    × (l.core.shape ≡ l.initial.core.shape)
    × (kept_in l.core ≡ kept_in l.initial.core)
    × (g.L.StepLog.room l.initial.log ≤ g.L.StepLog.room l.log + 2 * l.taken)

abbrev pub decreases-loop-taken : goal.decreases-loop-taken
decreases-loop-taken g l = length l.replies - l.taken
