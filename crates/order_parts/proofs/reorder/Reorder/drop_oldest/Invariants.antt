use Rattle.std.proofs.Common.{◌≡◌}
use Rattle.order_parts.specs.Reorder.{without_first}
use Rattle.order_parts.proofs.reorder.Reorder.drop_oldest.Given as goal

abbrev pub invariant-loop : goal.invariant-loop
invariant-loop l = l.self ≡ without_first l.initial.self l.counter
