use Rattle.std.proofs.Common.{◌≡◌, ◌+◌, ◌≤◌, ◌++◌, length}
use Rattle.std.specs.Prelude.{vec_capacity, vec_len}
use Rattle.event_device.proofs.held.add_ends.Given as goal

abbrev pub invariant-loop-end : goal.invariant-loop-end
invariant-loop-end l =
    (l.fars.items ≡ l.initial.fars.items ++ l.yielded) × (vec_len l.fars + length l.end-iterator.rest.items ≤ vec_capacity l.fars)
