-- Events of a lane that have an ordered queue's oldest places.
use Rattle.std.specs.Prelude.{ℕ, ◌≡◌, List, Some, slice_get}
use Rattle.order_parts.specs.Reorder.{Reordering, number_of}
use Rattle.order_parts.specs.declared.history.Entry.{Entry}

-- the events are the queue's, and have its oldest places, one after the other
abbrev pub AreInTurn : ℕ → Reordering → List Entry → Type 0
AreInTurn q r ys = (k : ℕ) (y : Entry) → slice_get ys k ≡ Some y → (y.queue ≡ q) × (y.place ≡ number_of r k)

-- and the one behind so many of these isn't, or has another place than the next
abbrev pub EndsTurn : ℕ → Reordering → ℕ → List Entry → Type 0
EndsTurn q r n ys = (y : Entry) → slice_get ys n ≡ Some y → ¬ ((y.queue ≡ q) × (y.place ≡ number_of r n))
