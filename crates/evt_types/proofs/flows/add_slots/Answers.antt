use Rattle.std.proofs.Common.{arith}
use Rattle.std.proofs.lemmas.Grind.{common_steps}
use Rattle.evt_types.proofs.FlowLanes.{slot_lanes_more}
use Rattle.evt_types.proofs.flows.add_slots.Goals as goal

pub loop-slot-preserved : goal.loop-slot-preserved
loop-slot-preserved c = grind (arith, common_steps, slot_lanes_more c.args.queue c.loop-slot.slot, c.loop-slot.invariant)
