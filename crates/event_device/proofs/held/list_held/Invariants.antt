use Rattle.std.proofs.Common.{◌≡◌, ◌+◌, ◌≤◌, ◌++◌, length, map}
use Rattle.std.specs.Prelude.{vec_capacity, vec_len}
use Rattle.event_device.specs.Held.{held_entry}
use Rattle.event_device.proofs.held.list_held.Given as goal

abbrev pub invariant-loop-queue : goal.invariant-loop-queue
invariant-loop-queue l =
    (l.held.items ++ map (held_entry l.port) l.holding.items ≡ l.initial.held.items ++ map (held_entry l.port) l.initial.holding.items)
    × (vec_len l.held + length l.holding.items ≤ vec_capacity l.held) × (vec_capacity l.held ≡ vec_capacity l.initial.held)

abbrev pub decreases-loop-queue : goal.decreases-loop-queue
decreases-loop-queue l = length l.holding.items
