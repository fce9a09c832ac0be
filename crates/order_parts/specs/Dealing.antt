-- What a row of events of one queue that is dealt among lanes leaves of the queue's order and pins, and of the lanes' entries.
use Rattle.std.specs.Prelude.{ℕ, ◌≡◌, ◌↔◌, ◌<◌, ◌-◌, ◌==◌, ◌⊎◌, count_by, List, [], ◌∷◌, ◌++◌, length, true, Some, IsTrue, slice_get, slice_set}
use Rattle.evt_types.specs.declared.event.Delivery.{Delivery}
use Rattle.order_parts.specs.HandedRow.{with_pinned}
use Rattle.order_parts.specs.Histories.{HasRoom, lane_in}
use Rattle.order_parts.specs.History.{Entries, entries_of}
use Rattle.order_parts.specs.Orders.{handed, is_restoring}
use Rattle.order_parts.specs.Pins.{Pin, may_pin, pin_at}
use Rattle.order_parts.specs.Reorder.{Reordering, next_number}
use Rattle.order_parts.specs.declared.history.Entry.{Entry}
use Rattle.small_set.specs.SmallSets.{Has}
use Rattle.small_set.specs.declared.set.SmallSet.{SmallSet}

-- how many entries each lane has, and how many more it has room for
abbrev pub loads_in : List Entries → ℕ → ℕ
loads_in ls l = length (lane_in ls l).entries

abbrev pub room_at : List Entries → ℕ → ℕ
room_at ls l = (lane_in ls l).capacity - length (lane_in ls l).entries

-- the lane's history with one entry more
abbrev pub with_entry : List Entries → ℕ → Entry → List Entries
with_entry ls l y = slice_set ls l (entries_of ((lane_in ls l).entries ++ y ∷ []) (lane_in ls l).capacity)

-- how often the lane stands in the list
abbrev pub times : ℕ → List ℕ → ℕ
times l to = count_by (λ k. k == l) to

-- by how many events each lane has: of two lanes the first has fewer, or as many and the lower number
abbrev pub HasFewer : (ℕ → ℕ) → ℕ → ℕ → Type 0
HasFewer load m l = (load m < load l) ⊎ ((load m ≡ load l) × (m < l))

-- of these lanes the one that may have the slot and has fewest entries, of several the first
pub record IsBestOf (ps : List Pin) (ls : List Entries) (lanes : SmallSet) (slot l : ℕ) : Type 0 where
  pub there : Has lanes l
  pub may : IsTrue (may_pin (pin_at ps slot) l)
  pub best : (m : ℕ) → Has lanes m → IsTrue (may_pin (pin_at ps slot) m) → ¬ HasFewer (loads_in ls) m l

-- the same, of those of these lanes that have room
pub record IsBestOpen (ps : List Pin) (ls : List Entries) (lanes : SmallSet) (slot l : ℕ) : Type 0 where
  pub there : Has lanes l
  pub room : HasRoom ls l
  pub may : IsTrue (may_pin (pin_at ps slot) l)
  pub best : (m : ℕ) → Has lanes m → HasRoom ls m → IsTrue (may_pin (pin_at ps slot) m) → ¬ HasFewer (loads_in ls) m l

-- The order, the pins and the lanes, once each of these events of the queue is handed to the lane at its place: one after the other it is the
-- best one of these lanes that have room, and the event has the next place where the queue restores an order.
abbrev pub AreDealt : (ℕ → ℕ → Type 0) → SmallSet → ℕ → Reordering → List Pin → List Entries → List Delivery → List ℕ → Reordering → List Pin → List Entries → Type 0
AreDealt is_slot among q r ps ls [] [] rt pt lt = (rt ≡ r) × (pt ≡ ps) × (lt ≡ ls)
AreDealt is_slot among q r ps ls [] (l ∷ to) rt pt lt = ⊥
AreDealt is_slot among q r ps ls (d ∷ ds) [] rt pt lt = ⊥
AreDealt is_slot among q r ps ls (d ∷ ds) (l ∷ to) rt pt lt =
    (slot : ℕ) × (place : ℕ) × is_slot d.event.flow slot × IsBestOpen ps ls among slot l × (is_restoring r ≡ true → place ≡ next_number r)
    × AreDealt is_slot among q (handed r d.number) (with_pinned ps slot l) (with_entry ls l (record { queue = q; number = d.number; slot = slot; place = place })) ds to rt pt lt

-- these are those of the lanes that have room
abbrev pub AreOpenOf : SmallSet → List Entries → SmallSet → Type 0
AreOpenOf among ls opened = (l : ℕ) → Has opened l ↔ (Has among l × HasRoom ls l)

-- none of these lanes that have room may have the slot of the event at this place of the row
abbrev pub HasNoLane : (ℕ → ℕ → Type 0) → SmallSet → List Pin → List Entries → List Delivery → ℕ → Type 0
HasNoLane is_slot among ps ls ds i = (d : Delivery) × (slot : ℕ) × (slice_get ds i ≡ Some d) × is_slot d.event.flow slot × ((l : ℕ) → Has among l → HasRoom ls l → ¬ IsTrue (may_pin (pin_at ps slot) l))
