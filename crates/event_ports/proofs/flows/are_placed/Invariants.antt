use Rattle.std.proofs.Common.{◌≡◌, ℕ, ◌<◌, ◌≤◌, ◌⊎◌, Some, slice_get}
use Rattle.lane_rings.specs.LaneSets.{lanes_below, lanes_in}
use Rattle.event_ports.proofs.flows.are_placed.Given as goal

abbrev pub invariant-loop-position : goal.invariant-loop-position
invariant-loop-position l =
    (i lane : ℕ) → i < l.position → slice_get l.links i ≡ Some lane → (lanes_below l.lanes lane ≡ i) ⊎ ((lanes_in l.lanes ≤ lanes_below l.lanes lane) × (lanes_in l.lanes ≤ i))
