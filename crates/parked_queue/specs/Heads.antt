-- The numbers of the first events that are set aside.
use Rattle.std.specs.Prelude.{ℕ, ◌≡◌, ◌<◌, ◌≤◌, ◌-◌, ◌^◌, List, [], length, slice_get, slice_index_or, Option, Some, None}
use Rattle.evt_types.specs.declared.event.Numbered.{Numbered}
use Rattle.small_set.specs.SmallSets.{Has}
use Rattle.small_set.specs.declared.set.SmallSet.{SmallSet}
use Rattle.parked_queue.specs.Lists.{Lists, list_at}
use Rattle.parked_queue.specs.Parted.{list_of_slot}

-- in place of a number, where there is no event
abbrev pub no_head : ℕ
no_head = 2 ^ 64 - 1

-- the number of an event that may be there
abbrev pub number_of : Option Numbered → ℕ
number_of None = no_head
number_of (Some w) = w.number

-- the number of a slot
abbrev pub number_at : List ℕ → ℕ → ℕ
number_at row slot = slice_index_or row slot no_head

-- of these slots it is the one with the lowest number, and there is such a number
pub record IsFirstSlot (row : List ℕ) (slots : SmallSet) (slot : ℕ) : Type 0 where
  pub there : Has slots slot
  pub some : number_at row slot < no_head
  pub first : (k : ℕ) → Has slots k → number_at row slot ≤ number_at row k

-- none of these slots has a number
abbrev pub HasNoHead : List ℕ → SmallSet → Type 0
HasNoHead row slots = (k : ℕ) → Has slots k → no_head ≤ number_at row k

-- the row of a level
abbrev pub row_at : List (List ℕ) → ℕ → List ℕ
row_at rows c = slice_index_or rows c []

-- for each slot and level the number of the first event of its list
pub record AreHeads (l : Lists) (slots : ℕ) (rows : List (List ℕ)) : Type 0 where
  pub four : length rows ≡ 4
  pub long : (c : ℕ) → c < 4 → length (row_at rows c) ≡ slots
  pub first : (c slot : ℕ) → c < 4 → slot < slots → number_at (row_at rows c) slot ≡ number_of (slice_get (list_at l (list_of_slot slot c)) 0)
