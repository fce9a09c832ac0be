use Rattle.order_parts.proofs.HeldSlots.{AreOff}
use Rattle.small_set.specs.SmallSets.{weight}
use Rattle.order_parts.proofs.pins.slots_off.Given as goal

abbrev pub invariant-loop-lane : goal.invariant-loop-lane
invariant-loop-lane l = AreOff l.fn.held l.initial.left l.left l.slots

abbrev pub decreases-loop-lane : goal.decreases-loop-lane
decreases-loop-lane l = weight l.left
