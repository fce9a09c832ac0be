-- Events of one value: they agree in all fields that a device keeps.
use Rattle.std.specs.Prelude.{ℕ, ◌≡◌, ◌+◌, ◌<◌, Bool, false, not, ◌&&◌, List, ◌==◌, nat_le, count_by, take, Some, slice_get}
use Rattle.evt_types.specs.Operation.{is_release_reply}
use Rattle.evt_types.specs.declared.event.Event.{Event}
use Rattle.history_judge.specs.declared.seen.Deed.{Deed}
use Rattle.history_judge.specs.declared.seen.Deed.TheVariants.{Sent, Got}
use Rattle.history_judge.specs.declared.seen.Seen.{Seen}

-- whether the events are of one value: `IsSameBut`, as a test
abbrev pub is_same_but : Event → Event → Bool
is_same_but e f =
    (e.flow == f.flow) && ((e.sub_type == f.sub_type) && ((e.event_type == f.event_type) && ((e.queue == f.queue) && ((e.priority == f.priority) && (e.payload == f.payload)))))

-- whether an event of e's value was enqueued; with a RELEASE none is
abbrev pub sends_value : Event → Deed → Bool
sends_value e (Sent r) = not (is_release_reply r) && is_same_but e r.event
sends_value e (Got f) = false

-- whether one was dequeued
abbrev pub gets_value : Event → Deed → Bool
gets_value e (Sent r) = false
gets_value e (Got f) = is_same_but e f

-- how often events of e's value were enqueued in the whole history
abbrev pub times_sent : List Seen → Event → ℕ
times_sent hs e = count_by (λ (s : Seen). sends_value e s.deed) hs

-- how often they were dequeued in its first entries
abbrev pub times_got : List Seen → Event → ℕ → ℕ
times_got hs e i = count_by (λ (s : Seen). gets_value e s.deed) (take i hs)

-- how often events of e's value were enqueued by calls that began by t
abbrev pub times_begun : List Seen → Event → ℕ → ℕ
times_begun hs e t = count_by (λ (s : Seen). sends_value e s.deed && nat_le s.began t) hs

-- the i-th entry got an event, and when it ended no call had begun that enqueued one of its value
pub record IsPremature (hs : List Seen) (i : ℕ) : Type 0 where
  pub seen : Seen
  pub entry : slice_get hs i ≡ Some seen
  pub event : Event
  pub got : seen.deed ≡ Got event
  pub none : times_begun hs event seen.ended ≡ 0

-- with the i-th entry an event of a value was got more often than such events were sent in the whole history
pub record IsExcess (hs : List Seen) (i : ℕ) : Type 0 where
  pub seen : Seen
  pub entry : slice_get hs i ≡ Some seen
  pub event : Event
  pub got : seen.deed ≡ Got event
  pub more : times_sent hs event < times_got hs event (i + 1)
