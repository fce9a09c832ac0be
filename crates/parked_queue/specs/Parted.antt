-- How the waiting events are parted into lists.
use Rattle.std.specs.Prelude.{ℕ, ◌≡◌, ◌+◌, ◌*◌, ◌<◌, ◌≤◌, Bool, List, [], ◌∷◌, nat_lt, slice_get, slice_index_or, slice_set, Option, All, Contains, if◌then◌else◌}
use Rattle.evt_types.specs.Plan.{level_of}
use Rattle.evt_types.specs.declared.event.Numbered.{Numbered}
use Rattle.small_set.specs.SmallSets.{Has}
use Rattle.small_set.specs.declared.set.SmallSet.{SmallSet}
use Rattle.parked_queue.specs.Merge.{in_list}
use Rattle.parked_queue.specs.Waits.{Waits, no_waits, slot_of}

-- what waits, and for each level the number below which its events are parked
pub record Parted : Type 0 where
  pub waits : Waits
  pub below : List ℕ

abbrev pub below_at : List ℕ → ℕ → ℕ
below_at below c = slice_index_or below c 0

-- below its level's number an event is parked
abbrev pub is_parked : List ℕ → Numbered → Bool
is_parked below w = nat_lt w.number (below_at below (level_of w.event))

-- the list of a slot's parked events of a level; a level's others are in the list of the level's own number
abbrev pub list_of_slot : ℕ → ℕ → ℕ
list_of_slot slot c = 4 * (slot + 1) + c

-- the list that an event is in
abbrev pub list_of : ℕ → List ℕ → Numbered → ℕ
list_of slots below w = if is_parked below w then list_of_slot (slot_of slots w) (level_of w.event) else level_of w.event

-- how many lists there are
abbrev pub list_count : ℕ → ℕ
list_count slots = 4 * (slots + 1)

-- the events in a list
abbrev pub list_in : Parted → ℕ → List Numbered
list_in v k = in_list (list_of v.waits.slots v.below) k v.waits.waiting

-- the first event of the level's own list
abbrev pub own_first : Parted → ℕ → Option Numbered
own_first v c = slice_get (list_in v c) 0

abbrev pub no_parted : ℕ → ℕ → Parted
no_parted slots room = record { waits = no_waits slots room; below = 0 ∷ 0 ∷ 0 ∷ 0 ∷ [] }

-- what waits is another; the numbers below which events are parked stay
abbrev pub with_waits : Parted → Waits → Parted
with_waits v q = record v { waits = q }

-- the level's events below this number are parked
abbrev pub with_below : Parted → ℕ → ℕ → Parted
with_below v c n = record v { below = slice_set v.below c n }

-- ---- the first parked one

-- a parked event of the level whose slot is allowed
pub record IsParkedAllowed (v : Parted) (c : ℕ) (allowed : SmallSet) (w : Numbered) : Type 0 where
  pub waits : Contains v.waits.waiting w
  pub level : level_of w.event ≡ c
  pub slot : Has allowed (slot_of v.waits.slots w)
  pub parked : w.number < below_at v.below c

-- the oldest parked event of the level whose slot is allowed
pub record IsFirstParked (v : Parted) (c : ℕ) (allowed : SmallSet) (w : Numbered) : Type 0 where
  pub one : IsParkedAllowed v c allowed w
  pub first : All (λ (u : Numbered). level_of u.event ≡ c → u.number < below_at v.below c → Has allowed (slot_of v.waits.slots u) → w.number ≤ u.number) v.waits.waiting

-- no parked event of the level has an allowed slot
abbrev pub HasNoneParked : Parted → ℕ → SmallSet → Type 0
HasNoneParked v c allowed = All (λ (u : Numbered). level_of u.event ≡ c → u.number < below_at v.below c → ¬ Has allowed (slot_of v.waits.slots u)) v.waits.waiting

-- each slot with a parked event of the level is among these, and each of these is there
pub record HasMarks (v : Parted) (c : ℕ) (marks : SmallSet) : Type 0 where
  pub marked : All (λ (u : Numbered). level_of u.event ≡ c → u.number < below_at v.below c → Has marks (slot_of v.waits.slots u)) v.waits.waiting
  pub there : (slot : ℕ) → Has marks slot → slot < v.waits.slots

-- the list of the event of a number, which is of the level and the slot
abbrev pub list_of_number : List ℕ → ℕ → ℕ → ℕ → ℕ
list_of_number below c slot n = if nat_lt n (below_at below c) then list_of_slot slot c else c
