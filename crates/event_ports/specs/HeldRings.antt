-- What a port holds, as a list.
use Rattle.std.specs.Prelude.{ℕ, Bool, List}
use Rattle.event_ports.specs.declared.lane.Holding.{Holding}

-- what was noted and not dropped, oldest first, how much that may be, and whether anything is noted
pub record Held : Type 0 where
  pub items : List Holding
  pub capacity : ℕ
  pub notes : Bool

abbrev pub holds : List Holding → ℕ → Bool → Held
holds xs n b = record { items = xs; capacity = n; notes = b }
