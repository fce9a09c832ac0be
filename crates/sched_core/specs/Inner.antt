-- The parts of a core: what waits in a queue, what is unanswered on a lane, and what holds of each.
use Rattle.std.specs.Prelude.{ℕ, ◌≡◌, ◌<◌, List, length, map, slice_index_or, if◌then◌else◌}
use Rattle.std.specs.List.{range_with_len}
use Rattle.evt_types.specs.Plan.{Plan, bound_of, is_atomic, queue_of}
use Rattle.transcripts.specs.Transcript.{Held}
use Rattle.order_parts.specs.declared.history.Entry.{Entry}
use Rattle.parked_queue.specs.Waits.{Waits, AreWaits, no_waits}

-- a queue of this room
pub record IsQueueOf (capacity : ℕ) (q : Waits) : Type 0 where
  pub room : q.room ≡ capacity
  pub waits : AreWaits q

-- how many slots the events of a queue fall into: those of an atomic queue, of another queue one
abbrev pub slots_for : Plan → ℕ → ℕ
slots_for p q = if is_atomic (queue_of p q).kind then (queue_of p q).slots else 1

-- the slots of each of the first queues
abbrev pub queue_slots : Plan → ℕ → List ℕ
queue_slots p n = map (slots_for p) (range_with_len 0 n)

-- each queue has its slots
abbrev pub HaveSlots : Plan → List Waits → Type 0
HaveSlots p qs = (k : ℕ) (d : Waits) → k < length qs → (slice_index_or qs k d).slots ≡ slots_for p k

-- the first queues of a device, in which nothing waits
pub record AreEmptyQueues (p : Plan) (n : ℕ) (qs : List Waits) : Type 0 where
  pub count : length qs ≡ n
  pub empty : (k : ℕ) (d : Waits) → k < length qs → slice_index_or qs k d ≡ no_waits (slots_for p k) (bound_of p)

-- an unanswered event, without its place
abbrev pub unplaced : Entry → Held
unplaced y = record { queue = y.queue; number = y.number; slot = y.slot }
