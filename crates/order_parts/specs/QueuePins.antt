-- The pins of all queues.
use Rattle.std.specs.Prelude.{ℕ, ◌≡◌, ◌<◌, List, [], length, replicate, slice_index_or, slice_set}
use Rattle.evt_types.specs.Plan.{Plan, atomic_slots, queue_of}
use Rattle.order_parts.specs.Pins.{Pin, free, pin_at}

-- how many slots of the queue have a pin: those of an atomic queue, of another queue none
abbrev pub slots_of : Plan → ℕ → ℕ
slots_of p q = atomic_slots (queue_of p q)

abbrev pub pins_at : List (List Pin) → ℕ → List Pin
pins_at ps q = slice_index_or ps q []

-- a slot's pin; a slot without one counts as free
abbrev pub pin_in : List (List Pin) → ℕ → ℕ → Pin
pin_in ps q slot = pin_at (pins_at ps q) slot

-- a slot's pin changes, where it has one
abbrev pub with_pin : List (List Pin) → ℕ → ℕ → Pin → List (List Pin)
with_pin ps q slot x = slice_set ps q (slice_set (pins_at ps q) slot x)

-- the pins of the first queues, with nothing unanswered
pub record AreFreePins (p : Plan) (n : ℕ) (ps : List (List Pin)) : Type 0 where
  pub count : length ps ≡ n
  pub slots : (q : ℕ) → q < n → pins_at ps q ≡ replicate (slots_of p q) free
