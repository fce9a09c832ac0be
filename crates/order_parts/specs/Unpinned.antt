-- Slots of one queue of which events are answered one after the other.
use Rattle.std.specs.Prelude.{ℕ, ◌≡◌, ◌<◌, List, [], ◌∷◌, fold, length, slice_set}
use Rattle.order_parts.specs.Pins.{Pin, pin_at, unpinned}
use Rattle.order_parts.specs.declared.history.Entry.{Entry}

-- one event of the entry's slot fewer; a slot without a pin counts as free
abbrev pub without_entry : List Pin → Entry → List Pin
without_entry ps y = slice_set ps y.slot (unpinned (pin_at ps y.slot))

-- an event fewer for each of the entries
abbrev pub without_entries : List Pin → List Entry → List Pin
without_entries ps ys = fold without_entry ps ys

-- each entry's slot has an event as it comes to it, from the first one on as long as they are of the queue
abbrev pub AreHeldInTurn : ℕ → List Pin → List Entry → Type 0
AreHeldInTurn q ps [] = Unit {0}
AreHeldInTurn q ps (y ∷ ys) = y.queue ≡ q → (y.slot < length ps → 0 < (pin_at ps y.slot).count) × AreHeldInTurn q (without_entry ps y) ys

-- the entry is of the queue
abbrev pub IsOfQueue : ℕ → Entry → Type 0
IsOfQueue q y = y.queue ≡ q
