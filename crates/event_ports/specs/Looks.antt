-- How a port's sets of flow lanes stand to its links and to the lanes that it holds. By these sets a dequeue finds the lanes to look at.
use Rattle.std.specs.Prelude.{◌≡◌, ℕ, ◌<◌, ◌≤◌, true, List, slice_get, Option}
use Rattle.std.specs.Prelude.Option.{Some}
use Rattle.std.specs.Option.{is_some}
use Rattle.lane_rings.specs.LaneSets.{Has, lanes_below, lanes_in}
use Rattle.lane_rings.specs.declared.hints.LaneSet.{LaneSet}
use Rattle.flow_claims.specs.declared.claim.Stint.{Stint}
use Rattle.event_ports.specs.Holds.{entry_at}

-- the lane is in the set, and one of those of which there are hints
abbrev pub IsIn : LaneSet → ℕ → Type 0
IsIn s lane = (lane < 128) × Has s lane

-- The set of the links. Before the link of a lane that is in it come as many links as it has lower lanes, and before that of another lane
-- at least as many as it has lanes.
pub record IsLinkSet (linked : LaneSet) (links : List ℕ) : Type 0 where
  pub placed : (i lane : ℕ) → slice_get links i ≡ Some lane → IsIn linked lane → lanes_below linked lane ≡ i
  pub past : (i lane : ℕ) → slice_get links i ≡ Some lane → (¬ IsIn linked lane) → lanes_in linked ≤ i

-- the set has each lane that is held, of those of which there are hints
abbrev pub HasHeld : LaneSet → List (Option Stint) → Type 0
HasHeld held stints = (lane : ℕ) → lane < 128 → is_some (entry_at stints lane) ≡ true → Has held lane

-- the lanes whose hints were cleared are the lowest of those that are left
pub record AreFirst (next left : LaneSet) : Type 0 where
  pub within : (i : ℕ) → Has next i → Has left i
  pub first : (i j : ℕ) → Has next j → Has left i → i ≤ j → Has next i
