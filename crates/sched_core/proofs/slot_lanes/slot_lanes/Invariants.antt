use Rattle.sched_core.specs.SlotLanes.{AreSlotLanes}
use Rattle.sched_core.proofs.slot_lanes.slot_lanes.Given as goal

abbrev pub invariant-loop-index : goal.invariant-loop-index
invariant-loop-index l = AreSlotLanes l.shape l.index l.lanes.items
