use Rattle.std.proofs.Common.{◌≡◌, ◌+◌, ◌++◌, List, Some, map, reverse, length, vec_capacity}
use Rattle.lane_rings.specs.declared.far.Far.{Far}
use Rattle.flow_claims.proofs.ends.wrapped.Given as goal

abbrev pub invariant-loop-far : goal.invariant-loop-far
invariant-loop-far l =
    ((done : List Far) × (l.slots.items ≡ map Some done))
    × (map Some l.initial.ends.items ≡ map Some l.ends.items ++ reverse l.slots.items)
    × (length l.initial.ends.items ≡ length l.ends.items + length l.slots.items)
    × (vec_capacity l.slots ≡ vec_capacity l.initial.slots)
    × (vec_capacity l.ends ≡ vec_capacity l.initial.ends)

abbrev pub decreases-loop-far : goal.decreases-loop-far
decreases-loop-far l = length l.ends.items
