use Rattle.std.proofs.Common.{◌≡◌, ℕ, ◌<◌, Some, slice_get}
use Rattle.lane_rings.specs.LaneSets.{Has}
use Rattle.event_ports.proofs.flows.all_lanes.Given as goal

abbrev pub invariant-loop-lane : goal.invariant-loop-lane
invariant-loop-lane l = (i lane : ℕ) → i < l.lane-index → slice_get l.links i ≡ Some lane → lane < 128 → Has l.lanes lane
