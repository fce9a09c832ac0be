use Rattle.std.proofs.Common.{take}
use Rattle.order_parts.specs.InTurn.{AreInTurn}
use Rattle.order_parts.proofs.reorder.Reorder.in_turn.Given as goal

abbrev pub invariant-loop-index : goal.invariant-loop-index
invariant-loop-index l = AreInTurn l.queue l.self (take l.index l.history.entries)
