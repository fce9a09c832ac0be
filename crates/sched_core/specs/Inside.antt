-- What can be counted of a core while its device runs.
use Rattle.std.specs.Prelude.{ℕ, Bool, ◌==◌, List, count_by}
use Rattle.std.specs.List.{list_any, range_with_len}
use Rattle.evt_types.specs.Plan.{Plan, atomic_slots, queue_of}
use Rattle.transcripts.specs.Transcript.{Held}
use Rattle.sched_core.specs.Pinned.{is_of}

-- an unanswered event is of the queue
abbrev pub is_of_queue : ℕ → Held → Bool
is_of_queue q h = h.queue == q

-- an unanswered event of the slot is among these
abbrev pub has_slot : ℕ → List Held → ℕ → Bool
has_slot q hs slot = list_any (is_of q slot) hs

-- of how many slots of an atomic queue an event is among these unanswered ones: another queue has no slots that count
abbrev pub slots_among : Plan → ℕ → List Held → ℕ
slots_among p q hs = count_by (has_slot q hs) (range_with_len 0 (atomic_slots (queue_of p q)))
