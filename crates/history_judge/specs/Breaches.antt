-- What no run of a device of the shape fits.
use Rattle.std.specs.Prelude.{ℕ, ◌≡◌, ◌≢◌, ◌+◌, ◌<◌, true, false, ◌&&◌, Bool, List, nat_lt, length, sum_by, Option, Some, None, slice_get, ◌⊎◌}
use Rattle.std.specs.List.{range_with_len}
use Rattle.evt_types.specs.Operation.{is_answer, is_new_reply, passes_on}
use Rattle.evt_types.specs.Plan.{Plan, bound_of, depth_of, queue_of, is_atomic, is_flows, serves, slot_of}
use Rattle.evt_types.specs.declared.event.Event.{Event}
use Rattle.evt_types.specs.declared.event.Kind.{Kind}
use Rattle.evt_types.specs.declared.event.Kind.TheVariants.{Atomic, Ordered, Parallel}
use Rattle.evt_types.specs.declared.event.Reply.{Reply}
use Rattle.transcripts.specs.Lawful.{keeps_order}
use Rattle.history_judge.specs.Histories.{IsAnswerTo, IsHeldAt, answers_begun, gets, got_before, held_surely}
use Rattle.history_judge.specs.Values.{IsExcess, IsPremature, gets_value, times_sent}
use Rattle.history_judge.specs.declared.breach.Breach.{Breach}
use Rattle.history_judge.specs.declared.breach.Breach.TheVariants.{Unlinked, Together, Unsent, Early, Overtaken, Reordered, Overfull, Crowded}
use Rattle.history_judge.specs.declared.seen.Deed.TheVariants.{Got, Sent}
use Rattle.history_judge.specs.declared.seen.Seen.{Seen}

-- whether the event's queue is there, and the lane serves its slot
abbrev pub may_get : Plan → ℕ → Event → Bool
may_get p l e = nat_lt e.queue (length p.queues) && serves p l e.queue (slot_of p e.queue e.flow)

-- the port got an event that its lane isn't given
pub record IsUnlinked (p : Plan) (hs : List Seen) (i : ℕ) : Type 0 where
  pub seen : Seen
  pub entry : slice_get hs i ≡ Some seen
  pub event : Event
  pub got : seen.deed ≡ Got event
  pub refused : may_get p seen.port event ≡ false

-- the two events are of one slot of an atomic queue
pub record AreOfOneSlot (p : Plan) (e f : Event) : Type 0 where
  pub atomic : is_atomic (queue_of p e.queue).kind ≡ true
  pub queue : e.queue ≡ f.queue
  pub slot : slot_of p e.queue e.flow ≡ slot_of p f.queue f.flow

-- at one time two ports hold events of one slot of an atomic queue
pub record IsTogether (p : Plan) (hs : List Seen) (i j : ℕ) : Type 0 where
  pub time : ℕ
  pub one : Seen
  pub other : Seen
  pub one_held : IsHeldAt hs i time one
  pub other_held : IsHeldAt hs j time other
  pub one_port : one.port < length p.ports
  pub other_port : other.port < length p.ports
  pub apart : one.port ≢ other.port
  pub one_event : Event
  pub other_event : Event
  pub one_got : one.deed ≡ Got one_event
  pub other_got : other.deed ≡ Got other_event
  pub same : AreOfOneSlot p one_event other_event

-- A value of events was got more often than it was sent. No lane but the ports' own has any events, so that each enqueue is an entry.
pub record IsUnsent (p : Plan) (hs : List Seen) (i : ℕ) : Type 0 where
  pub ports : is_flows p.serving ≡ false
  pub excess : IsExcess hs i

-- An event was got before any of its value was sent.
pub record IsEarly (p : Plan) (hs : List Seen) (i : ℕ) : Type 0 where
  pub ports : is_flows p.serving ≡ false
  pub premature : IsPremature hs i

-- the entry got an event of a value that was sent once in the whole history, by a reply of this kind
pub record IsOnlyOne (is : Reply → Bool) (hs : List Seen) (i : ℕ) : Type 0 where
  pub place : ℕ
  pub sender : Seen
  pub enqueued : slice_get hs place ≡ Some sender
  pub reply : Reply
  pub sent : sender.deed ≡ Sent reply
  pub kind : is reply ≡ true
  pub once : times_sent hs reply.event ≡ 1
  pub getter : Seen
  pub dequeued : slice_get hs i ≡ Some getter
  pub got : gets_value reply.event getter.deed ≡ true

-- the two events are of one queue, which keeps their order
pub record AreKeptInOrder (p : Plan) (e f : Event) : Type 0 where
  pub queue : e.queue ≡ f.queue
  pub kept : keeps_order p e.queue e f ≡ true

-- the j-th entry's event was got before that of the i-th: before it by the same port, or by a call that ended before the other's began
abbrev pub WasGotBefore : ℕ → Seen → ℕ → Seen → Type 0
WasGotBefore j u i s = ((u.port ≡ s.port) × (j < i)) ⊎ (u.ended < s.began)

-- The same of two events whose order a queue of this kind keeps. What an ordered queue hands to several ports they get in any order.
abbrev pub CameBefore : Kind → ℕ → Seen → ℕ → Seen → Type 0
CameBefore Atomic j u i s = WasGotBefore j u i s
CameBefore Ordered j u i s = (u.port ≡ s.port) × (j < i)
CameBefore Parallel j u i s = ⊥

-- A port enqueued two events to a queue that keeps their order, and the other, which it enqueued later, was got first.
pub record IsOvertaken (p : Plan) (hs : List Seen) (i j : ℕ) : Type 0 where
  pub ports : is_flows p.serving ≡ false
  pub one : IsOnlyOne is_new_reply hs i
  pub other : IsOnlyOne is_new_reply hs j
  pub sender : one.sender.port ≡ other.sender.port
  pub later : one.place < other.place
  pub same : AreKeptInOrder p one.reply.event other.reply.event
  pub before : CameBefore (queue_of p one.reply.event.queue).kind j other.getter i one.getter

-- whether it is a FORWARD: an answer with an event
abbrev pub is_forward_reply : Reply → Bool
is_forward_reply r = is_answer r && passes_on r.event.op

-- the event that the g-th entry got was forwarded, and what it was forwarded as the h-th got
pub record IsForwarded (hs : List Seen) (g h : ℕ) : Type 0 where
  pub onward : IsOnlyOne is_forward_reply hs h
  pub answer : IsAnswerTo hs g onward.place

-- A port enqueued two events to a queue that keeps their order. They were forwarded to another that keeps the order of what they were
-- forwarded as, and of these the other, whose NEW came later, was got first.
pub record IsReordered (p : Plan) (hs : List Seen) (i j : ℕ) : Type 0 where
  pub ports : is_flows p.serving ≡ false
  pub one_at : ℕ
  pub one : IsOnlyOne is_new_reply hs one_at
  pub other_at : ℕ
  pub other : IsOnlyOne is_new_reply hs other_at
  pub sender : one.sender.port ≡ other.sender.port
  pub later : one.place < other.place
  pub kept : AreKeptInOrder p one.reply.event other.reply.event
  pub one_on : IsForwarded hs one_at i
  pub other_on : IsForwarded hs other_at j
  pub same : AreKeptInOrder p one_on.onward.reply.event other_on.onward.reply.event
  pub before : CameBefore (queue_of p one_on.onward.reply.event.queue).kind j other_on.onward.getter i one_on.onward.getter

-- Of the events that the port got, up to and with the i-th entry, more than its depth are in its hand for certain when that entry ends.
pub record IsOverfull (p : Plan) (hs : List Seen) (i : ℕ) : Type 0 where
  pub seen : Seen
  pub entry : slice_get hs i ≡ Some seen
  pub port : seen.port < length p.ports
  pub got : gets seen.deed ≡ true
  pub more : depth_of p seen.port + answers_begun hs seen.port seen.ended < got_before hs seen.port i + 1

-- When the i-th entry, a dequeue, ended, the ports together held more events for certain than may be inside.
pub record IsCrowded (p : Plan) (hs : List Seen) (i : ℕ) : Type 0 where
  pub seen : Seen
  pub entry : slice_get hs i ≡ Some seen
  pub got : gets seen.deed ≡ true
  pub more : bound_of p < sum_by (held_surely hs seen.ended) (range_with_len 0 (length p.ports))

abbrev pub IsBreach : Plan → List Seen → Breach → Type 0
IsBreach p hs (Unlinked i) = IsUnlinked p hs i
IsBreach p hs (Together i j) = IsTogether p hs i j
IsBreach p hs (Unsent i) = IsUnsent p hs i
IsBreach p hs (Early i) = IsEarly p hs i
IsBreach p hs (Overtaken i j) = IsOvertaken p hs i j
IsBreach p hs (Reordered i j) = IsReordered p hs i j
IsBreach p hs (Overfull i) = IsOverfull p hs i
IsBreach p hs (Crowded i) = IsCrowded p hs i

-- what is answered: a breach that it has, or that it has none
abbrev pub IsAnswer : Plan → List Seen → Option Breach → Type 0
IsAnswer p hs None = (b : Breach) → ¬ IsBreach p hs b
IsAnswer p hs (Some b) = IsBreach p hs b
