-- How the events of several queues are parted into lists of one store.
use Rattle.std.specs.Prelude.{ℕ, ◌≡◌, ◌+◌, ◌*◌, ◌<◌, ◌≤◌, ◌^◌, ◌⊎◌, List, [], ◌∷◌, length, map, replicate, slice_index_or}
use Rattle.std.specs.List.{range_with_len}
use Rattle.small_set.specs.SmallSets.{Has}
use Rattle.small_set.specs.declared.set.SmallSet.{SmallSet}
use Rattle.parked_queue.specs.Heads.{no_head}
use Rattle.parked_queue.specs.Lists.{Lists, list_at, total_of}
use Rattle.parked_queue.specs.Marks.{Kept, IsParking, mask_of, parted_in}
use Rattle.parked_queue.specs.Parted.{Parted, list_count}
use Rattle.parked_queue.specs.Waits.{Waits, all_waiting}
use Rattle.parked_queue.specs.declared.parking.Parking.{Parking}

-- ---- one queue

-- so many of the lists, from the base on
abbrev pub segment : Lists → ℕ → ℕ → Lists
segment l base n = record { room = l.room; lists = map (λ k. list_at l (base + k)) (range_with_len 0 n) }

-- what is kept of the queue
abbrev pub kept : Lists → Parking → Kept
kept l p = record { lists = segment l p.base (list_count p.slots); slots = p.slots; mask = p.mask; below = p.below; parked = p.parked; heads = p.heads; next = p.next }

-- how its events are parted, and what waits in it
abbrev pub parted_by : Lists → Parking → Parted
parted_by l p = parted_in (kept l p)

abbrev pub waits_by : Lists → Parking → Waits
waits_by l p = (parted_by l p).waits

-- its lists are there and are those of what waits in it, which is counted; there are few lists in all, and room for all that is in them
pub record IsParted (l : Lists) (p : Parking) : Type 0 where
  pub parking : IsParking (kept l p)
  pub count : p.count ≡ length (waits_by l p).waiting
  pub within : p.base + list_count p.slots ≤ length l.lists
  pub few : length l.lists ≤ 16640
  pub room : total_of l ≤ l.room

-- the lists of m are those of l, but for the part from b on of so many, and the part makes all the difference in how many events
-- there are
pub record IsBut (b n : ℕ) (l m : Lists) : Type 0 where
  pub room : m.room ≡ l.room
  pub count : length m.lists ≡ length l.lists
  pub others : (j : ℕ) → (j < b) ⊎ (b + n ≤ j) → list_at m j ≡ list_at l j
  pub total : total_of m + total_of (segment l b n) ≡ total_of l + total_of (segment m b n)

-- the queue is another, in which this waits, and no list but its own has changed
pub record IsChanged (l : Lists) (p : Parking) (m : Lists) (x : Parking) (w : Waits) : Type 0 where
  pub part : IsParted m x
  pub base : x.base ≡ p.base
  pub slots : x.slots ≡ p.slots
  pub but : IsBut p.base (list_count p.slots) l m
  pub waits : waits_by m x ≡ w

-- ---- all queues

abbrev pub no_parking : Parking
no_parking = record { base = 0; slots = 1; mask = 0; below = []; parked = []; heads = []; next = 0; count = 0 }

abbrev pub parking_at : List Parking → ℕ → Parking
parking_at ps q = slice_index_or ps q no_parking

-- what waits in each queue
abbrev pub all_waits : Lists → List Parking → List Waits
all_waits l ps = map (waits_by l) ps

-- each queue has lists of its own, all of which are there
pub record AreApart (ps : List Parking) (n : ℕ) : Type 0 where
  pub within : (q : ℕ) → q < length ps → (parking_at ps q).base + list_count (parking_at ps q).slots ≤ n
  pub apart : (p q : ℕ) → p < q → q < length ps → (parking_at ps p).base + list_count (parking_at ps p).slots ≤ (parking_at ps q).base
  pub few : n ≤ 260 * length ps

-- each queue's lists are those of what waits in it, which is counted, and there is no event but those of the queues; the room is a
-- number of the machine's
pub record AreParkings (l : Lists) (ps : List Parking) : Type 0 where
  pub apart : AreApart ps (length l.lists)
  pub queues : length ps ≤ 64
  pub each : (q : ℕ) → q < length ps → IsParking (kept l (parking_at ps q))
  pub counts : (q : ℕ) → q < length ps → (parking_at ps q).count ≡ length (waits_by l (parking_at ps q)).waiting
  pub total : total_of l ≡ all_waiting (all_waits l ps)
  pub within : total_of l ≤ l.room
  pub small : l.room < 2 ^ 64

-- ---- new ones

-- a queue with lists from the base on, in which nothing waits
pub record IsNewParking (b n : ℕ) (p : Parking) : Type 0 where
  pub base : p.base ≡ b
  pub slots : p.slots ≡ n
  pub mask : p.mask ≡ mask_of n
  pub below : p.below ≡ 0 ∷ 0 ∷ 0 ∷ 0 ∷ []
  pub parked : (marks : SmallSet) × (p.parked ≡ marks ∷ marks ∷ marks ∷ marks ∷ []) × ((k : ℕ) → ¬ Has marks k)
  pub heads : p.heads ≡ replicate n no_head ∷ replicate n no_head ∷ replicate n no_head ∷ replicate n no_head ∷ []
  pub next : p.next ≡ 0
  pub count : p.count ≡ 0

-- the first queues, of so many slots each, and how many lists they have
pub record AreFirstParkings (slots : List ℕ) (ps : List Parking) (n : ℕ) : Type 0 where
  pub each : (q : ℕ) → q < length ps → IsNewParking (parking_at ps q).base (slice_index_or slots q 0) (parking_at ps q)
  pub apart : AreApart ps n

pub record AreNewParkings (slots : List ℕ) (ps : List Parking) (n : ℕ) : Type 0 where
  pub count : length ps ≡ length slots
  pub first : AreFirstParkings slots ps n
