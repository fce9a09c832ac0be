-- A set of flow lanes, of which the first 128 may be in it.
use Rattle.std.specs.Prelude.{ℕ, ◌≡◌, ◌≢◌, ◌<◌, ◌≤◌, ◌-◌, ◌↔◌, Bool, true, cond, ltb, min, count_by}
use Rattle.std.specs.List.{range_with_len}
use Rattle.small_set.specs.SmallSets.{is_member}
use Rattle.lane_rings.specs.declared.hints.Hints.{Hints}
use Rattle.lane_rings.specs.declared.hints.LaneSet.{LaneSet}

-- whether the lane is in the set: the first 64 lanes are in one part of it, the others in the other part
abbrev pub is_in : LaneSet → ℕ → Bool
is_in s lane = cond (ltb lane 64) (is_member s.low lane) (is_member s.high (lane - 64))

-- the lane is in the set
abbrev pub Has : LaneSet → ℕ → Type 0
Has s lane = is_in s lane ≡ true

abbrev pub IsEmpty : LaneSet → Type 0
IsEmpty s = (lane : ℕ) → ¬ Has s lane

-- beside this one lane, both sets have the same ones
abbrev pub SameBut : ℕ → LaneSet → LaneSet → Type 0
SameBut lane s t = (i : ℕ) → i ≢ lane → Has t i ↔ Has s i

-- the lowest lane of the set
pub record IsFirst (s : LaneSet) (lane : ℕ) : Type 0 where
  pub within : lane < 128
  pub there : Has s lane
  pub first : (i : ℕ) → Has s i → lane ≤ i

-- how many lanes of the set are below this one
unfoldable pub lanes_below : LaneSet → ℕ → ℕ
lanes_below s lane = count_by (is_in s) (range_with_len 0 lane)

-- how many lanes are in the set
abbrev pub lanes_in : LaneSet → ℕ
lanes_in s = lanes_below s 128

-- the lowest lanes of the set, so many, or all of them where it has fewer
pub record AreLowest (s : LaneSet) (most : ℕ) (low : LaneSet) : Type 0 where
  pub within : (i : ℕ) → Has low i → Has s i
  pub first : (i j : ℕ) → Has low j → Has s i → i ≤ j → Has low i
  pub count : lanes_in low ≡ min most (lanes_in s)

-- how many of the scheduler's lanes come before the first flow lane
abbrev pub lanes_before : Hints → ℕ
lanes_before h = h.before
