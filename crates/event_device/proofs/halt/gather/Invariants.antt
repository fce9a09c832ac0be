use Rattle.std.proofs.Common.{◌≡◌, ◌+◌, ◌≤◌, ◌++◌, Some, length, map, All, IsSome, vec_capacity}
use Rattle.std.specs.Vec.Iter.{drain_items, DrainKeeps}
use Rattle.event_device.proofs.halt.gather.Given as goal

abbrev pub invariant-loop-home : goal.invariant-loop-home
invariant-loop-home l = record {
  can : (goal.iterator-loop-home).can_next l.home-iterator;
  finite : (goal.iterator-loop-home).is_finite l.home-iterator;
  keeps : DrainKeeps l.initial.home-iterator l.home-iterator;
  taken : map Some l.ports.items ++ drain_items l.home-iterator ≡ drain_items l.initial.home-iterator;
  home : All (λ home. IsSome home) (drain_items l.home-iterator);
  room : length l.ports.items + length (drain_items l.home-iterator) ≤ vec_capacity l.ports;
}
