-- The ring of what is held: which places are taken, and how its numbers fit together.
use Rattle.std.specs.Prelude.{ℕ, ◌<◌, ◌≤◌, List, length}
use Rattle.std.specs.Int.{IsPowerOfTwo}
use Rattle.lists.specs.Windows.{window}
use Rattle.lane_rings.specs.declared.held_pairs.HeldPairs.TheInside.{Inside}

-- what is held, oldest first
abbrev pub in_ring : Inside → List (ℕ × ℕ)
in_ring a = window a.first a.len a.places.items

-- there is a place for all that is held, and as many places as a power of two
pub record IsRing (a : Inside) : Type 0 where
  pub power : IsPowerOfTwo (length a.places.items)
  pub first : a.first < length a.places.items
  pub few : a.len ≤ length a.places.items
