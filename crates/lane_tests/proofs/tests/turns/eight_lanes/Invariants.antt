use Rattle.std.proofs.Common.{◌≡◌, All, length, vec_capacity}
use Rattle.flow_claims.specs.Laws.{IsUnused}
use Rattle.lane_tests.proofs.tests.turns.eight_lanes.Given as goal

abbrev pub invariant-loop-round : goal.invariant-loop-round
invariant-loop-round l =
    (length l.ends.items ≡ l._round) × (vec_capacity l.ends ≡ 8) × All IsUnused l.ends.items
