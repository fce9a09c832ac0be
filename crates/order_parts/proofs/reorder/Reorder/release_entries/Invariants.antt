use Rattle.std.proofs.Common.{◌≡◌, All, take}
use Rattle.order_parts.specs.Released.{released_all}
use Rattle.order_parts.specs.Unpinned.{IsOfQueue}
use Rattle.order_parts.proofs.reorder.Reorder.release_entries.Given as goal

abbrev pub invariant-loop-index : goal.invariant-loop-index
invariant-loop-index l =
    (l.self ≡ released_all l.initial.self (take l.index l.history.entries))
    × All (IsOfQueue l.queue) (take l.index l.history.entries)
