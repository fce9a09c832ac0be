use Rattle.std.proofs.Common.{◌≡◌, ◌≢◌, ℕ, ◌+◌, ◌*◌, ◌≤◌, ◌-◌}
use Rattle.event_scheduler.specs.Scheduler.{seen_at, sight_of}
use Rattle.event_scheduler.specs.Seeking.{fetched_in}
use Rattle.event_scheduler.specs.Taking.{Takes, only}
use Rattle.transcripts.specs.Standing.{kept_in}
use Rattle.event_scheduler.proofs.Lanes.{unfetched}
use Rattle.event_scheduler.proofs.scheduler.Scheduler.take_lane.Given as goal

abbrev pub decreases-loop-taken : goal.decreases-loop-taken
decreases-loop-taken g l = l.most - l.taken + unfetched (fetched_in l.self.lanes.items l.lane)

abbrev pub invariant-loop-taken : goal.invariant-loop-taken
invariant-loop-taken g l =
    Takes (only l.lane l.taken) l.taken (sight_of l.initial.self) (g.L.StepLog.steps l.initial.log) (sight_of l.self) (g.L.StepLog.steps l.log)
    × (g.L.StepLog.room l.initial.log + kept_in l.self.core ≤ g.L.StepLog.room l.log + kept_in l.initial.self.core + 2 * l.taken)
    × ((j : ℕ) → j ≢ l.lane → seen_at (sight_of l.self) j ≡ seen_at (sight_of l.initial.self) j)
    × (l.taken ≤ l.most)
