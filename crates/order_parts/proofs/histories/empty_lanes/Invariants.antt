use Rattle.order_parts.specs.Histories.{AreEmptyLanes}
use Rattle.order_parts.proofs.histories.empty_lanes.Given as goal

abbrev pub invariant-loop-lane : goal.invariant-loop-lane
invariant-loop-lane l = AreEmptyLanes l.shape l.lane l.lanes.items
