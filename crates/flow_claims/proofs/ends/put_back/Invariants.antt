use Rattle.std.proofs.Common.{◌≡◌, ◌+◌, ◌++◌, List, Some, map, reverse, length, vec_capacity}
use Rattle.lane_rings.specs.declared.far.Far.{Far}
use Rattle.flow_claims.proofs.ends.put_back.Given as goal

abbrev pub invariant-loop-slot : goal.invariant-loop-slot
invariant-loop-slot l =
    ((more : List Far) × (l.slots.items ≡ map Some more))
    × (map Some l.ends.items ++ reverse l.slots.items ≡ map Some l.initial.ends.items ++ reverse l.initial.slots.items)
    × (length l.ends.items + length l.slots.items ≡ length l.initial.ends.items + length l.initial.slots.items)
    × (vec_capacity l.ends ≡ vec_capacity l.initial.ends)

abbrev pub decreases-loop-slot : goal.decreases-loop-slot
decreases-loop-slot l = length l.slots.items
