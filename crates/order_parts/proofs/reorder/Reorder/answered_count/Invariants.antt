use Rattle.std.proofs.Common.{◌≡◌, ◌+◌, drop, length}
use Rattle.order_parts.specs.Released.{answered_front}
use Rattle.order_parts.proofs.reorder.Reorder.answered_count.Given as goal

abbrev pub invariant-loop-index : goal.invariant-loop-index
invariant-loop-index l = l.index + length (answered_front (drop l.index l.self.places)) ≡ length (answered_front l.self.places)
