-- The ring of what a port holds: which places are taken, and how its numbers fit together.
use Rattle.std.specs.Prelude.{◌≡◌, ◌<◌, ◌≤◌, List, length}
use Rattle.lists.specs.Windows.{window}
use Rattle.event_ports.specs.declared.lane.Holding.{Holding}
use Rattle.event_ports.specs.declared.held_ring.HeldRing.TheInside.{Inside}

-- what is held, oldest first
abbrev pub in_ring : Inside → List Holding
in_ring a = window a.first a.len a.places.items

-- there is room for all that may be held
pub record IsRing (a : Inside) : Type 0 where
  pub places : length a.places.items ≡ 64
  pub first : a.first < 64
  pub few : a.len ≤ a.capacity
  pub room : a.capacity ≤ 64
