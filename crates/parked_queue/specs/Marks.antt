-- How a queue's parted events are held.
use Rattle.std.specs.Prelude.{ℕ, ◌≡◌, ◌-◌, ◌==◌, ◌<◌, ◌≤◌, List, length, slice_index_or, All, bit_and, if◌then◌else◌}
use Rattle.evt_types.specs.Plan.{level_of}
use Rattle.evt_types.specs.declared.event.Numbered.{Numbered}
use Rattle.small_set.specs.SmallSets.{Has}
use Rattle.small_set.specs.declared.set.SmallSet.{SmallSet}
use Rattle.parked_queue.specs.Merge.{by_number, lists_of}
use Rattle.parked_queue.specs.Parted.{Parted, below_at, list_of, list_count}
use Rattle.parked_queue.specs.Waits.{AreWaits, slot_of}
use Rattle.parked_queue.specs.Heads.{AreHeads}
use Rattle.parked_queue.specs.Lists.{Lists}

-- A queue's lists, its slots, what leaves a flow's slot, for each level the number below which its events are parked, the slots that
-- may have such an event and each slot's first number, and the next event's number.
pub record Kept : Type 0 where
  pub lists : Lists
  pub slots : ℕ
  pub mask : ℕ
  pub below : List ℕ
  pub parked : List SmallSet
  pub heads : List (List ℕ)
  pub next : ℕ

-- the slots of a level that may have parked events
abbrev pub marks_at : List SmallSet → ℕ → SmallSet
marks_at parked c = slice_index_or parked c (record { bits = 0 })

-- each slot with a parked event is marked, and there is no mark of a slot that isn't there
pub record AreMarks (v : Parted) (parked : List SmallSet) : Type 0 where
  pub marked : All (λ (u : Numbered). u.number < below_at v.below (level_of u.event) → Has (marks_at parked (level_of u.event)) (slot_of v.waits.slots u)) v.waits.waiting
  pub there : (c slot : ℕ) → Has (marks_at parked c) slot → slot < v.waits.slots

-- what leaves a flow's slot, of so many, where they are a power of two; else a number above each mask
abbrev pub mask_of : ℕ → ℕ
mask_of slots = if bit_and slots (slots - 1) == 0 then slots - 1 else 64

-- there are some slots, few of them, and the mask is theirs
pub record IsMasked (slots m : ℕ) : Type 0 where
  pub some : 0 < slots
  pub few : slots ≤ 64
  pub mask : m ≡ mask_of slots

abbrev pub parted_in : Kept → Parted
parted_in a = record { waits = record { waiting = by_number a.lists.lists; next = a.next; room = a.lists.room; slots = a.slots }; below = a.below }

-- the lists are those of what waits, the mask is that of the slots, no number below which events are parked is past the next one, and the slots are marked
-- and have the numbers of the first events that are parked
pub record IsParking (a : Kept) : Type 0 where
  pub waits : AreWaits (parted_in a).waits
  pub lists : a.lists.lists ≡ lists_of (list_of a.slots a.below) 0 (list_count a.slots) (by_number a.lists.lists)
  pub mask : a.mask ≡ mask_of a.slots
  pub bounds : (c : ℕ) → below_at a.below c ≤ a.next
  pub four : length a.below ≡ 4
  pub levels : length a.parked ≡ 4
  pub marks : AreMarks (parted_in a) a.parked
  pub heads : AreHeads a.lists a.slots a.heads
