use Rattle.std.proofs.Common.{◌≡◌, All, drop, take}
use Rattle.order_parts.specs.Unpinned.{AreHeldInTurn, IsOfQueue, without_entries}
use Rattle.order_parts.proofs.all_pins.unpin_entries.Given as goal

abbrev pub invariant-loop-index : goal.invariant-loop-index
invariant-loop-index l =
    (l.pins ≡ without_entries l.initial.pins (take l.index l.history.entries))
    × All (IsOfQueue l.queue) (take l.index l.history.entries)
    × AreHeldInTurn l.queue l.pins (drop l.index l.history.entries)
