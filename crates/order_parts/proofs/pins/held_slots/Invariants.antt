use Rattle.std.proofs.Common.{map}
use Rattle.order_parts.specs.Held.{AreHeldBelow}
use Rattle.order_parts.specs.Pins.{pin_of}
use Rattle.order_parts.proofs.pins.held_slots.Given as goal

abbrev pub invariant-loop-slot : goal.invariant-loop-slot
invariant-loop-slot l = AreHeldBelow (map pin_of l.fn.holds) l.slot l.held
