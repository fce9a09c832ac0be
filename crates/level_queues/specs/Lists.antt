-- The four lists of a queue's waiting events.
use Rattle.std.specs.Prelude.{ℕ, ◌≡◌, ◌≤◌, List, [], ◌∷◌, ◌++◌, length, map, slice_get, slice_set, slice_index_or, Option, All}
use Rattle.std.specs.List.{remove}
use Rattle.circular_buffer.specs.Buffer.{Buffer, buffer}
use Rattle.evt_types.specs.Plan.{level_of}
use Rattle.evt_types.specs.declared.event.Numbered.{Numbered}

-- a list for each level, each oldest first, and how many events each may have
pub record Lists : Type 0 where
  pub capacity : ℕ
  pub lists : List (List Numbered)

-- ---- how the rings hold them

abbrev pub events_in : Buffer Numbered → List Numbered
events_in b = b.items

-- the ring of a level
abbrev pub ring_at : List (Buffer Numbered) → ℕ → Buffer Numbered
ring_at bs k = slice_index_or bs k (buffer [] 0)

-- they all have the capacity of the first one
abbrev pub lists_of : List (Buffer Numbered) → Lists
lists_of bs = record { capacity = (ring_at bs 0).capacity; lists = map events_in bs }

-- ---- the calls

abbrev pub no_events : ℕ → Lists
no_events n = record { capacity = n; lists = [] ∷ [] ∷ [] ∷ [] ∷ [] }

-- the events of a level
abbrev pub list_at : Lists → ℕ → List Numbered
list_at v k = slice_index_or v.lists k []

-- the event of a level at a place
abbrev pub item_at : Lists → ℕ → ℕ → Option Numbered
item_at v k i = slice_get (list_at v k) i

-- another list at one level; the other three stay
abbrev pub with_list : Lists → ℕ → List Numbered → Lists
with_list v k xs = record v { lists = slice_set v.lists k xs }

-- the event is the last one of its level
abbrev pub with_last : Lists → Numbered → Lists
with_last v n = with_list v (level_of n.event) (list_at v (level_of n.event) ++ n ∷ [])

-- the event of a level at a place is gone; the others of that level keep their order
abbrev pub without : Lists → ℕ → ℕ → Lists
without v k i = with_list v k (remove (list_at v k) i)

-- ---- what holds of them

abbrev pub IsOfLevel : ℕ → Numbered → Type 0
IsOfLevel k n = level_of n.event ≡ k

-- there are four lists, none has more events than it may, and each event is in the list of its level
pub record AreLevels (v : Lists) : Type 0 where
  pub four : length v.lists ≡ 4
  pub within : (k : ℕ) → length (list_at v k) ≤ v.capacity
  pub levelled : (k : ℕ) → All (IsOfLevel k) (list_at v k)
