-- What came of the NEWs whose order is looked at, and the entry that got of it what was got first.
use Rattle.std.specs.Prelude.{ℕ, ◌≡◌, ◌<◌, ◌≤◌, Bool, true, false, ◌&&◌, List, length, ◌==◌, nat_le, Option, Some, None, slice_get, if◌then◌else◌}
use Rattle.std.specs.BTreeMap.{BTreeMap, get}
use Rattle.std.specs.Option.{option_cmp}
use Rattle.std.specs.Ordering.{nat_cmp, ordering_then}
use Rattle.std.specs.declared.cmp.Ordering.{Ordering}
use Rattle.evt_types.specs.Operation.{is_new_reply}
use Rattle.evt_types.specs.Plan.{Plan, is_flows, level_of, queue_of}
use Rattle.evt_types.specs.declared.event.Event.{Event}
use Rattle.evt_types.specs.declared.event.Kind.{Kind}
use Rattle.evt_types.specs.declared.event.Kind.TheVariants.{Atomic, Ordered, Parallel}
use Rattle.evt_types.specs.declared.event.Reply.{Reply}
use Rattle.history_judge.specs.Answers.{AreAnswers}
use Rattle.history_judge.specs.Breaches.{IsForwarded, IsOnlyOne, WasGotBefore}
use Rattle.history_judge.specs.Entries.{IsUnsorted}
use Rattle.history_judge.specs.Left.{AreAllSent, left_for, value_cmp, value_of}
use Rattle.history_judge.specs.Values.{IsExcess, gets_value, is_same_but}
use Rattle.history_judge.specs.declared.arrivals.Arrival.{Arrival}
use Rattle.history_judge.specs.declared.arrivals.Course.{Course}
use Rattle.history_judge.specs.declared.arrivals.Course.TheVariants.{Itself, Forwarded}
use Rattle.history_judge.specs.declared.arrivals.KeptOrder.{KeptOrder}
use Rattle.history_judge.specs.declared.arrivals.Stream.{Stream}
use Rattle.history_judge.specs.declared.arrivals.Tables.{Tables}
use Rattle.history_judge.specs.declared.seen.Deed.{Deed}
use Rattle.history_judge.specs.declared.seen.Deed.TheVariants.{Sent, Got}
use Rattle.history_judge.specs.declared.seen.Seen.{Seen}
use Rattle.history_judge.specs.declared.values.Value.{Value}

-- ---- what is sent once

-- the event of a reply of the kind, where one event of its value is counted
abbrev pub only_sent : (Reply → Bool) → BTreeMap Value ℕ → Deed → Option Event
only_sent is sent (Got e) = None
only_sent is sent (Sent r) = if is r && (left_for sent r.event == 1) then Some r.event else None

abbrev pub only_event : (Reply → Bool) → BTreeMap Value ℕ → Seen → Option Event
only_event is sent s = only_sent is sent s.deed

-- ---- who got it

abbrev pub getter_of : BTreeMap Value ℕ → Event → Option ℕ
getter_of m e = get value_cmp m (value_of e)

-- n has this entry for the event's value, and for each other what m has
abbrev pub IsGetter : BTreeMap Value ℕ → BTreeMap Value ℕ → Event → ℕ → Type 0
IsGetter m n e i = (f : Event) → getter_of n f ≡ (if is_same_but f e then Some i else getter_of m f)

-- n has as well the entry, the i-th, for what it got
abbrev pub HasGetter : BTreeMap Value ℕ → BTreeMap Value ℕ → Seen → ℕ → Type 0
HasGetter m n s i = (e : Event) → getter_of n e ≡ (if gets_value e s.deed then Some i else getter_of m e)

-- the entry, before the i-th, got an event of the value
pub record IsGot (hs : List Seen) (i : ℕ) (e : Event) (g : ℕ) : Type 0 where
  pub getter : Seen
  pub there : slice_get hs g ≡ Some getter
  pub before : g < i
  pub got : gets_value e getter.deed ≡ true

-- for each value an entry before the i-th that got it, if there is one
pub record AreGetters (hs : List Seen) (i : ℕ) (m : BTreeMap Value ℕ) : Type 0 where
  pub each : (e : Event) (g : ℕ) → getter_of m e ≡ Some g → IsGot hs i e g
  pub none : (e : Event) (g : ℕ) → getter_of m e ≡ None → ¬ IsGot hs i e g

-- how often each value was sent, who got it, and what answers what; the entries stand in the order of their ends, and no value was got
-- more often than it was sent
pub record AreReady (p : Plan) (hs : List Seen) (t : Tables) : Type 0 where
  pub ports : is_flows p.serving ≡ false
  pub sorted : (i : ℕ) → ¬ IsUnsorted hs i
  pub few : (i : ℕ) → ¬ IsExcess hs i
  pub counted : AreAllSent hs t.sent
  pub got : AreGetters hs (length hs) t.getters
  pub answered : AreAnswers hs t.answers.items

-- ---- streams

-- which events of a queue are kept in order: of an atomic one those of a flow and level, of an ordered one those of a level
abbrev pub order_in : Kind → Event → Option KeptOrder
order_in Atomic e = Some (record { queue = e.queue; level = level_of e; flow = Some e.flow })
order_in Ordered e = Some (record { queue = e.queue; level = level_of e; flow = None })
order_in Parallel e = None

abbrev pub order_of : Plan → Event → Option KeptOrder
order_of p e = order_in (queue_of p e.queue).kind e

-- the orders of these and of streams, field by field
abbrev pub order_cmp : KeptOrder → KeptOrder → Ordering
order_cmp x y = ordering_then (nat_cmp x.queue y.queue) (ordering_then (nat_cmp x.level y.level) (option_cmp nat_cmp x.flow y.flow))

abbrev pub stream_cmp : Stream → Stream → Ordering
stream_cmp x y =
    ordering_then (nat_cmp x.sender y.sender) (ordering_then (option_cmp order_cmp x.origin y.origin) (ordering_then (order_cmp x.kept y.kept)
    (option_cmp nat_cmp x.receiver y.receiver)))

abbrev pub stream_of : ℕ → Option KeptOrder → KeptOrder → Stream
stream_of l origin kept = record { sender = l; origin = origin; kept = kept; receiver = None }

-- of the stream's events those that the port got
abbrev pub of_port : Stream → ℕ → Stream
of_port k l = record { sender = k.sender; origin = k.origin; kept = k.kept; receiver = Some l }

-- the stream, whoever got its events
abbrev pub of_all : Stream → Stream
of_all k = record { sender = k.sender; origin = k.origin; kept = k.kept; receiver = None }

abbrev pub arrival : Stream → ℕ → Arrival
arrival k g = record { stream = k; getter = g }

-- the arrival of an event, by who got its value
abbrev pub arrival_by : ℕ → Option KeptOrder → KeptOrder → Option ℕ → Option Arrival
arrival_by l origin kept None = None
arrival_by l origin kept (Some g) = Some (arrival (stream_of l origin kept) g)

-- the same by the order that its queue keeps
abbrev pub arrival_in : BTreeMap Value ℕ → ℕ → Option KeptOrder → Event → Option KeptOrder → Option Arrival
arrival_in m l origin e None = None
arrival_in m l origin e (Some kept) = arrival_by l origin kept (getter_of m e)

abbrev pub arrival_of : Plan → BTreeMap Value ℕ → ℕ → Option KeptOrder → Event → Option Arrival
arrival_of p m l origin e = arrival_in m l origin e (order_of p e)

-- ---- what came of a NEW

-- the a-th entry's NEW, the only one of its value, is of this stream of a queue that keeps an order, and this entry got it
pub record IsSentTo (p : Plan) (hs : List Seen) (a : ℕ) (x : Arrival) : Type 0 where
  pub only : IsOnlyOne is_new_reply hs x.getter
  pub place : only.place ≡ a
  pub kept : KeptOrder
  pub keeps : order_of p only.reply.event ≡ Some kept
  pub stream : x.stream ≡ stream_of only.sender.port None kept

-- the same of what it was forwarded as, where its own queue keeps an order too
pub record IsForwardedTo (p : Plan) (hs : List Seen) (a : ℕ) (x : Arrival) : Type 0 where
  pub holder : ℕ
  pub new : IsOnlyOne is_new_reply hs holder
  pub place : new.place ≡ a
  pub origin : KeptOrder
  pub origin_is : order_of p new.reply.event ≡ Some origin
  pub on : IsForwarded hs holder x.getter
  pub kept : KeptOrder
  pub keeps : order_of p on.onward.reply.event ≡ Some kept
  pub stream : x.stream ≡ stream_of new.sender.port (Some origin) kept

abbrev pub Comes : Plan → List Seen → Course → ℕ → Arrival → Type 0
Comes p hs Itself a x = IsSentTo p hs a x
Comes p hs Forwarded a x = IsForwardedTo p hs a x

-- whether the j-th entry certainly got its event before the i-th did, where what several ports get of a flow alone comes in order
abbrev pub GotFirst : Option ℕ → ℕ → Seen → ℕ → Seen → Type 0
GotFirst (Some flow) j u i s = WasGotBefore j u i s
GotFirst None j u i s = (u.port ≡ s.port) × (j < i)

-- Two of one stream: what came of the later NEW the j-th entry got, before the i-th got what came of the earlier one.
pub record IsCrossed (p : Plan) (hs : List Seen) (c : Course) (i j : ℕ) : Type 0 where
  pub place : ℕ
  pub later : ℕ
  pub after : place < later
  pub stream : Stream
  pub one : Comes p hs c place (arrival stream i)
  pub other : Comes p hs c later (arrival stream j)
  pub reader : Seen
  pub read : slice_get hs i ≡ Some reader
  pub winner : Seen
  pub won : slice_get hs j ≡ Some winner
  pub before : GotFirst stream.kept.flow j winner i reader

-- ---- the first of a stream

-- whether what the port got is asked for
abbrev pub IsAsked : Option ℕ → ℕ → Type 0
IsAsked None l = Unit {0}
IsAsked (Some m) l = m ≡ l

-- what came of the a-th entry's NEW is of the stream, and the g-th entry got it
pub record IsIn (p : Plan) (hs : List Seen) (c : Course) (k : Stream) (a g : ℕ) : Type 0 where
  pub comes : Comes p hs c a (arrival (of_all k) g)
  pub getter : Seen
  pub there : slice_get hs g ≡ Some getter
  pub receiver : IsAsked k.receiver getter.port

abbrev pub first_in : BTreeMap Stream ℕ → Stream → Option ℕ
first_in m k = get stream_cmp m k

abbrev pub earlier : Option ℕ → ℕ → ℕ
earlier None g = g
earlier (Some h) g = if nat_le h g then h else g

abbrev pub is_same_option : Option ℕ → Option ℕ → Bool
is_same_option None None = true
is_same_option None (Some m) = false
is_same_option (Some l) None = false
is_same_option (Some l) (Some m) = l == m

abbrev pub is_same_order : KeptOrder → KeptOrder → Bool
is_same_order x y = (x.queue == y.queue) && ((x.level == y.level) && is_same_option x.flow y.flow)

abbrev pub is_same_origin : Option KeptOrder → Option KeptOrder → Bool
is_same_origin None None = true
is_same_origin None (Some y) = false
is_same_origin (Some x) None = false
is_same_origin (Some x) (Some y) = is_same_order x y

abbrev pub is_same_stream : Stream → Stream → Bool
is_same_stream k l = (k.sender == l.sender) && (is_same_origin k.origin l.origin && (is_same_order k.kept l.kept && is_same_option k.receiver l.receiver))

-- n has the earlier one of this entry and m's for the stream, and for each other what m has
abbrev pub IsNoted : BTreeMap Stream ℕ → BTreeMap Stream ℕ → Stream → ℕ → Type 0
IsNoted m n k g = (l : Stream) → first_in n l ≡ (if is_same_stream l k then Some (earlier (first_in m k) g) else first_in m l)

-- the entry's call ended before that of the other began
pub record EndedBefore (hs : List Seen) (i : ℕ) (s : Seen) : Type 0 where
  pub seen : Seen
  pub entry : slice_get hs i ≡ Some seen
  pub ended : seen.ended < s.began

-- this entry got one of the stream's events that come of NEWs from the a-th entry on, and none was got by one before it
pub record IsFirst (p : Plan) (hs : List Seen) (c : Course) (a : ℕ) (k : Stream) (g : ℕ) : Type 0 where
  pub place : ℕ
  pub from : a ≤ place
  pub there : IsIn p hs c k place g
  pub least : (b h : ℕ) → a ≤ b → IsIn p hs c k b h → g ≤ h

-- for each stream the first entry that got one of its events that come of NEWs from the a-th entry on; none of these is crossed
pub record AreFirsts (p : Plan) (hs : List Seen) (c : Course) (a : ℕ) (m : BTreeMap Stream ℕ) : Type 0 where
  pub each : (k : Stream) (g : ℕ) → first_in m k ≡ Some g → IsFirst p hs c a k g
  pub none : (k : Stream) (b h : ℕ) → first_in m k ≡ None → a ≤ b → ¬ IsIn p hs c k b h
  pub kept : (i j : ℕ) (bad : IsCrossed p hs c i j) → bad.place < a
