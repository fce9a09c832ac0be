-- What the holder's end of a lane has to answer, as a list.
use Rattle.std.specs.Prelude.{ℕ, List}

-- the queue and the number of each delivery that is held, oldest first, and for how many there is room
pub record Held : Type 0 where
  pub items : List (ℕ × ℕ)
  pub room : ℕ

abbrev pub holds : List (ℕ × ℕ) → ℕ → Held
holds xs n = record { items = xs; room = n }
