use Rattle.lane_rings.proofs.LaneSets.{IsLeft}
use Rattle.lane_rings.proofs.hints.LaneSet.lowest.Given as goal

-- as many of the lowest lanes as were asked for are taken so far
abbrev pub invariant-loop-taken : goal.invariant-loop-taken
invariant-loop-taken l = IsLeft l.self l._taken l.left
