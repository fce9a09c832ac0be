use Rattle.std.proofs.Common.{◌≡◌, ◌==◌, count_by, take}
use Rattle.order_parts.specs.declared.history.Entry.{Entry}
use Rattle.order_parts.proofs.history.History.count_of.Given as goal

abbrev pub invariant-loop-index : goal.invariant-loop-index
invariant-loop-index l = l.count ≡ count_by (λ (y : Entry). y.queue == l.queue) (take l.index l.self.entries)
