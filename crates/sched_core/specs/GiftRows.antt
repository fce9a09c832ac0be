-- What is kept beside the waiting events, once a row of events of a queue is handed to a lane.
use Rattle.std.specs.Prelude.{ℕ, ◌≡◌, ◌%◌, List, [], ◌∷◌, true, IsTrue, slice_set}
use Rattle.evt_types.specs.declared.event.Delivery.{Delivery}
use Rattle.order_parts.specs.Dealing.{with_entry}
use Rattle.order_parts.specs.History.{Entries}
use Rattle.order_parts.specs.Orders.{handed, is_restoring, order_at}
use Rattle.order_parts.specs.Pins.{Pin, may_pin, pinned}
use Rattle.order_parts.specs.QueuePins.{pin_in, with_pin}
use Rattle.order_parts.specs.Reorder.{Reordering, next_number}

-- the slot of a delivery's event, of so many
abbrev pub slot_in_row : ℕ → Delivery → ℕ
slot_in_row n d = d.event.flow % n

-- the pins, once an event of the slot is handed to the lane
abbrev pub pinned_on : List (List Pin) → ℕ → ℕ → ℕ → List (List Pin)
pinned_on ps q slot l = with_pin ps q slot (pinned (pin_in ps q slot) l)

-- The orders, pins and histories, once each of these events of the queue, which has so many slots, is handed to the lane: one after the
-- other the lane may have its slot, and an ordered queue's has the next place.
abbrev pub AreHanded : ℕ → ℕ → ℕ → List Reordering → List (List Pin) → List Entries → List Delivery → List Reordering → List (List Pin) → List Entries → Type 0
AreHanded n l q os ps ls [] ot pt lt = (ot ≡ os) × (pt ≡ ps) × (lt ≡ ls)
AreHanded n l q os ps ls (d ∷ ds) ot pt lt =
    (place : ℕ) × IsTrue (may_pin (pin_in ps q (slot_in_row n d)) l)
    × (is_restoring (order_at os q) ≡ true → place ≡ next_number (order_at os q))
    × AreHanded n l q (slice_set os q (handed (order_at os q) d.number)) (pinned_on ps q (slot_in_row n d) l) (with_entry ls l (record { queue = q; number = d.number; slot = slot_in_row n d; place = place })) ds ot pt lt
