-- The slots of each lane, as sets, beside the pins.
use Rattle.std.specs.Prelude.{ℕ, ◌≡◌, ◌<◌, ◌≤◌, ◌↔◌, Bool, IsTrue, List, length}
use Rattle.order_parts.specs.Pins.{Pin, cell_of, pin_at}
use Rattle.small_set.specs.SmallSets.{Has, set_at}
use Rattle.small_set.specs.declared.set.SmallSet.{SmallSet}

-- unanswered events of the slot stand on a lane that is noted under this number
pub record IsHeldIn (ps : List Pin) (k s : ℕ) : Type 0 where
  pub slot : s < length ps
  pub some : 0 < (pin_at ps s).count
  pub cell : cell_of (pin_at ps s).lane ≡ k

-- each set has the slots that stand on its lanes
pub record AreHeld (ps : List Pin) (sets : List SmallSet) : Type 0 where
  pub few : length ps ≤ 64
  pub cells : length sets ≡ 64
  pub held : (k s : ℕ) → k < 64 → Has (set_at sets k) s ↔ IsHeldIn ps k s

-- the slots are few, and while the sets are kept up each has the slots that stand on its lanes
pub record AreNoted (ps : List Pin) (is_kept : Bool) (sets : List SmallSet) : Type 0 where
  pub few : length ps ≤ 64
  pub held : IsTrue is_kept → AreHeld ps sets

-- each set has those of the first slots that stand on its lanes
pub record AreHeldBelow (ps : List Pin) (n : ℕ) (sets : List SmallSet) : Type 0 where
  pub cells : length sets ≡ 64
  pub held : (k s : ℕ) → k < 64 → Has (set_at sets k) s ↔ ((s < n) × IsHeldIn ps k s)
