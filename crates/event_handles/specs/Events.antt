-- Events as C has them: what an enqueue reads, and what a dequeue writes (rte_eventdev, struct rte_event).
use Rattle.std.specs.Prelude.{◌≡◌, ℕ, ◌+◌, ◌*◌, ◌^◌, List, slice_index_or}
use Rattle.evt_types.specs.Packed.{spare}
use Rattle.evt_types.specs.Word.{Fits, word_of}
use Rattle.evt_types.specs.declared.event.Delivery.{Delivery}
use Rattle.evt_types.specs.declared.event.Event.{Event}
use Rattle.evt_types.specs.declared.event.Kind.{Kind}
use Rattle.evt_types.specs.declared.event.Kind.TheVariants.{Ordered, Parallel}
use Rattle.evt_types.specs.declared.event.Op.TheVariants as ops
use Rattle.event_handles.specs.declared.event.CEvent.{CEvent}

-- an event with a scheduling type, as it lies in C's memory: its word, and its payload
abbrev pub c_event : Event → Kind → CEvent
c_event e k = record { word = word_of e k; payload = e.payload }

-- The event that an enqueue reads: all of it is as the program set it. The spare bits of the word, the reserved ones and the scheduling
-- type, aren't judged, and are no event's.
pub record IsRead (c : CEvent) (e : Event) : Type 0 where
  pub word : c.word ≡ word_of e Ordered + 2 ^ 34 * spare c.word
  pub payload : e.payload ≡ c.payload
  pub fits : Fits e

-- a delivery as a program gets it: a FORWARD, with the scheduling type of its queue
abbrev pub written : Delivery → Kind → CEvent
written d kind = c_event (record d.event { op = ops.Forward }) kind

-- the scheduling type of the queue of a number, by those of all queues; one that isn't among them counts as parallel
abbrev pub kind_in : List Kind → ℕ → Kind
kind_in kinds q = slice_index_or kinds q Parallel

abbrev pub written_in : List Kind → Delivery → CEvent
written_in kinds d = written d (kind_in kinds d.queue)
