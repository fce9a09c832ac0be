use Rattle.std.proofs.Common.{◌≡◌, map, take}
use Rattle.order_parts.specs.declared.history.Entry.{Entry}
use Rattle.order_parts.proofs.history.History.numbers.Given as goal

abbrev pub invariant-loop-index : goal.invariant-loop-index
invariant-loop-index l = l.numbers.items ≡ map (λ (y : Entry). y.number) (take l.index l.self.entries)
