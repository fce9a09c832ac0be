-- A set of set.
use Rattle.std.specs.Prelude.{ℕ, ◌≡◌, ◌≢◌, ◌<◌, ◌≤◌, ◌==◌, ◌↔◌, Bool, List, count_by, slice_index_or}
use Rattle.std.specs.Int.{bit_at}
use Rattle.std.specs.List.{range_with_len}
use Rattle.small_set.specs.declared.set.SmallSet.{SmallSet}

-- the member is in the set
abbrev pub Has : SmallSet → ℕ → Type 0
Has s k = bit_at s.bits k ≡ 1

abbrev pub IsEmpty : SmallSet → Type 0
IsEmpty s = (k : ℕ) → ¬ Has s k

-- beside this one member, both sets have the same ones
abbrev pub SameBut : ℕ → SmallSet → SmallSet → Type 0
SameBut k s t = (i : ℕ) → i ≢ k → Has t i ↔ Has s i

-- the lowest member of the set
pub record IsFirst (s : SmallSet) (k : ℕ) : Type 0 where
  pub within : k < 64
  pub there : Has s k
  pub first : (i : ℕ) → Has s i → k ≤ i

-- whether the member is in the set, as a test
abbrev pub is_member : SmallSet → ℕ → Bool
is_member s k = bit_at s.bits k == 1

-- how many members of the set are below this number
unfoldable pub members_below : SmallSet → ℕ → ℕ
members_below s k = count_by (is_member s) (range_with_len 0 k)

-- a number that falls with each member that is taken out, for walks over a set
abbrev pub weight : SmallSet → ℕ
weight s = s.bits

-- ---- lists of sets

abbrev pub no_places : SmallSet
no_places = record { bits = 0 }

-- the set of a number; one that isn't there is empty
abbrev pub set_at : List SmallSet → ℕ → SmallSet
set_at sets k = slice_index_or sets k no_places
