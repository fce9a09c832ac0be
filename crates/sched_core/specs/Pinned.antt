-- How the pins of all queues agree with the unanswered events.
use Rattle.std.specs.Prelude.{ℕ, ◌≡◌, ◌<◌, Bool, true, ◌&&◌, ◌==◌, List, [], length, count_by, slice_index_or, if◌then◌else◌, All}
use Rattle.evt_types.specs.Plan.{Plan, queue_of, is_atomic}
use Rattle.transcripts.specs.Transcript.{Held}
use Rattle.order_parts.specs.Pins.{Pin}
use Rattle.order_parts.specs.QueuePins.{pins_at, pin_in, slots_of}

abbrev pub entries_at : List (List Held) → ℕ → List Held
entries_at us l = slice_index_or us l []

-- an unanswered event of the slot
abbrev pub is_of : ℕ → ℕ → Held → Bool
is_of q slot y = (y.queue == q) && (y.slot == slot)

-- how many of the events are of the slot
abbrev pub count_of : ℕ → ℕ → List Held → ℕ
count_of q slot ys = count_by (is_of q slot) ys

-- how many unanswered events of the slot the pin says that the lane has
abbrev pub count_on : ℕ → Pin → ℕ
count_on l x = if x.lane == l then x.count else 0

-- There is a pin for each slot of an atomic queue, and it counts the slot's events on each lane.
pub record ArePins (p : Plan) (us : List (List Held)) (ps : List (List Pin)) : Type 0 where
  pub count : length ps ≡ length p.queues
  pub slots : (q : ℕ) → q < length p.queues → length (pins_at ps q) ≡ slots_of p q
  pub known : All (All (λ (y : Held). y.queue < length p.queues)) us
  pub held : (q slot l : ℕ) → is_atomic (queue_of p q).kind ≡ true → count_of q slot (entries_at us l) ≡ count_on l (pin_in ps q slot)
