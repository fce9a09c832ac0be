-- The unanswered events of a lane.
use Rattle.std.specs.Prelude.{ℕ, List}
use Rattle.order_parts.specs.declared.history.Entry.{Entry}

-- the entries, oldest first, and how many there may be
pub record Entries : Type 0 where
  pub entries : List Entry
  pub capacity : ℕ

abbrev pub entries_of : List Entry → ℕ → Entries
entries_of xs n = record { entries = xs; capacity = n }
