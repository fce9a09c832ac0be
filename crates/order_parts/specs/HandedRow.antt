-- What a row of events of one queue that is handed to one lane leaves of the slots' pins and of the lane's entries.
use Rattle.std.specs.Prelude.{ℕ, ◌≡◌, ◌<◌, ◌^◌, List, [], ◌∷◌, ◌++◌, IsTrue, IsFalse, Some, slice_get, slice_set}
use Rattle.evt_types.specs.declared.event.Delivery.{Delivery}
use Rattle.order_parts.specs.Pins.{Pin, may_pin, pin_at, pinned}
use Rattle.order_parts.specs.declared.history.Entry.{Entry}

-- the pins of the queue's slots, once an event of the slot is handed to the lane; a slot without a pin counts as free
abbrev pub with_pinned : List Pin → ℕ → ℕ → List Pin
with_pinned ps slot l = slice_set ps slot (pinned (pin_at ps slot) l)

-- the entry of an event of a queue that restores no order
abbrev pub plain_entry : ℕ → Delivery → ℕ → Entry
plain_entry q d slot = record { queue = q; number = d.number; slot = slot; place = 0 }

-- what says which slot a flow has, at the flows that there are
abbrev pub OfFlows : (ℕ → ℕ → Type 0) → ℕ → ℕ → Type 0
OfFlows is_slot flow slot = (flow < 2 ^ 32) × is_slot flow slot

-- The pins and the entries, once each of these events of the queue is handed to the lane: one after the other the lane may have its slot,
-- and has its entry behind the others.
abbrev pub AreHandedOn : (ℕ → ℕ → Type 0) → ℕ → ℕ → List Pin → List Entry → List Delivery → List Pin → List Entry → Type 0
AreHandedOn is_slot l q ps ys [] pt yt = (pt ≡ ps) × (yt ≡ ys)
AreHandedOn is_slot l q ps ys (d ∷ ds) pt yt =
    (slot : ℕ) × is_slot d.event.flow slot × IsTrue (may_pin (pin_at ps slot) l)
    × AreHandedOn is_slot l q (with_pinned ps slot l) (ys ++ plain_entry q d slot ∷ []) ds pt yt

-- the lane may not have the slot of the event at this place of the row
abbrev pub IsRefused : (ℕ → ℕ → Type 0) → ℕ → List Pin → List Delivery → ℕ → Type 0
IsRefused is_slot l ps ds i = (d : Delivery) × (slot : ℕ) × (slice_get ds i ≡ Some d) × is_slot d.event.flow slot × IsFalse (may_pin (pin_at ps slot) l)
