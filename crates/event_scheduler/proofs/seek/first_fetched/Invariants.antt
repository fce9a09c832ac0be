use Rattle.std.proofs.Common.{◌≡◌, ℕ, ◌<◌, ◌≤◌, [], length}
use Rattle.event_scheduler.specs.Seeking.{SameLanes, seen_in}
use Rattle.event_scheduler.proofs.seek.first_fetched.Given as goal

abbrev pub invariant-loop-lane : goal.invariant-loop-lane
invariant-loop-lane l =
    SameLanes l.initial.lanes l.lanes × (length l.lanes ≡ length l.initial.lanes)
    × ((k : ℕ) → l.from ≤ k → k < l.lane → seen_in l.lanes k ≡ [])
    × ((k : ℕ) → k < l.from → seen_in l.lanes k ≡ seen_in l.initial.lanes k)
