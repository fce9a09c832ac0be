use Rattle.std.proofs.Common.{◌≡◌, ℕ, ◌<◌, ◌≤◌, length, true}
use Rattle.evt_types.specs.Plan.{serves}
use Rattle.sched_core.proofs.slot_lanes.slot_lane.Given as goal

abbrev pub invariant-loop-lane : goal.invariant-loop-lane
invariant-loop-lane l = (m : ℕ) → m < l.lane → length l.shape.ports ≤ m → ¬ (serves l.shape m l.queue l.slot ≡ true)
