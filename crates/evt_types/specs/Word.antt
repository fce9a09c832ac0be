-- The event word: an event and its scheduling type in 64 bits, laid out as the first 64 bits of rte_event on a little-endian machine
-- (rte_eventdev, struct rte_event).
use Rattle.std.specs.Prelude.{ℕ, ◌+◌, ◌*◌, ◌^◌, ◌<◌}
use Rattle.evt_types.specs.declared.event.Event.{Event}
use Rattle.evt_types.specs.declared.event.Kind.{Kind}
use Rattle.evt_types.specs.declared.event.Kind.TheVariants.{Ordered, Atomic, Parallel}
use Rattle.evt_types.specs.declared.event.Op.{Op}
use Rattle.evt_types.specs.declared.event.Op.TheVariants.{New, Forward, Release, ForwardMore}

-- the code of an operation
abbrev pub op_code : Op → ℕ
op_code New = 0
op_code Forward = 1
op_code Release = 2
op_code ForwardMore = 3

-- the code of a scheduling type
abbrev pub kind_code : Kind → ℕ
kind_code Ordered = 0
kind_code Atomic = 1
kind_code Parallel = 2

-- From the lowest bit up: flow (20 bits), sub type (8), event type (4), operation (2), four bits 0, scheduling type (2),
-- queue (8), priority (8), impl_opaque (8).
abbrev pub word_of : Event → Kind → ℕ
word_of e k =
    e.flow + 2 ^ 20 * (e.sub_type + 2 ^ 8 * (e.event_type + 2 ^ 4 * (op_code e.op + 2 ^ 2 * (2 ^ 4 * (kind_code k + 2 ^ 2 * (e.queue + 2 ^ 8 * (e.priority + 2 ^ 8 * e.impl_opaque)))))))

-- Each field is within its width; of the flow and the event type every event says so itself.
pub record Fits (e : Event) : Type 0 where
  pub sub_type : e.sub_type < 2 ^ 8
  pub queue : e.queue < 2 ^ 8
  pub priority : e.priority < 2 ^ 8
  pub impl_opaque : e.impl_opaque < 2 ^ 8
