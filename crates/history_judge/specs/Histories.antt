-- What an application saw of a device, and the runs that fit it.
use Rattle.std.specs.Prelude.{ℕ, ◌≡◌, ◌-◌, ◌<◌, ◌≤◌, Bool, true, false, ◌&&◌, List, ◌==◌, nat_le, length, take, count_by, Some, slice_get}
use Rattle.evt_types.specs.Operation.{is_answer}
use Rattle.evt_types.specs.Plan.{Plan}
use Rattle.evt_types.specs.declared.event.Event.{Event}
use Rattle.evt_types.specs.declared.event.Reply.{Reply}
use Rattle.transcripts.specs.Transcript.{event_at, out}
use Rattle.world_laws.specs.World.{World, Move, Submits, Receives, LeadsTo, after_moves, empty}
use Rattle.history_judge.specs.declared.seen.Deed.{Deed}
use Rattle.history_judge.specs.declared.seen.Deed.TheVariants.{Sent, Got}
use Rattle.history_judge.specs.declared.seen.Seen.{Seen}

-- ---- entries

abbrev pub sends : Deed → Bool
sends (Sent r) = true
sends (Got e) = false

abbrev pub gets : Deed → Bool
gets (Sent r) = false
gets (Got e) = true

-- whether it answers what is held: a FORWARD or a RELEASE
abbrev pub answers : Deed → Bool
answers (Sent r) = is_answer r
answers (Got e) = false

-- the port's enqueues, its answers among them, and its dequeues
abbrev pub is_sent : ℕ → Seen → Bool
is_sent l s = (s.port == l) && sends s.deed

abbrev pub is_answered : ℕ → Seen → Bool
is_answered l s = (s.port == l) && answers s.deed

abbrev pub is_got : ℕ → Seen → Bool
is_got l s = (s.port == l) && gets s.deed

-- how many of the port's entries before the i-th are enqueues, and how many are dequeues
abbrev pub sent_before : List Seen → ℕ → ℕ → ℕ
sent_before hs l i = count_by (is_sent l) (take i hs)

abbrev pub got_before : List Seen → ℕ → ℕ → ℕ
got_before hs l i = count_by (is_got l) (take i hs)

-- how many of them are answers
abbrev pub answered_before : List Seen → ℕ → ℕ → ℕ
answered_before hs l i = count_by (is_answered l) (take i hs)

-- the b-th entry answers what the g-th got: a port's answers are to what it got, one after the other
pub record IsAnswerTo (hs : List Seen) (g b : ℕ) : Type 0 where
  pub holder : Seen
  pub taken : slice_get hs g ≡ Some holder
  pub got : gets holder.deed ≡ true
  pub answerer : Seen
  pub there : slice_get hs b ≡ Some answerer
  pub answer : is_answered holder.port answerer ≡ true
  pub turn : answered_before hs holder.port b ≡ got_before hs holder.port g

-- ---- runs that fit

-- the event in all fields that a device keeps: the operation and impl_opaque may differ (rte_eventdev, struct rte_event)
pub record IsSameBut (e f : Event) : Type 0 where
  pub flow : e.flow ≡ f.flow
  pub sub_type : e.sub_type ≡ f.sub_type
  pub event_type : e.event_type ≡ f.event_type
  pub queue : e.queue ≡ f.queue
  pub priority : e.priority ≡ f.priority
  pub payload : e.payload ≡ f.payload

-- a time between the entry's two
pub record IsWithin (s : Seen) (t : ℕ) : Type 0 where
  pub began : s.began ≤ t
  pub ended : t ≤ s.ended

-- the i-th entry is the port's submission of its number, made while the call ran
pub record WasSent (hs : List Seen) (moves : List Move) (clock : ℕ → ℕ) (i : ℕ) (s : Seen) (r : Reply) : Type 0 where
  pub move : ℕ
  pub made : slice_get moves move ≡ Some (Submits s.port r)
  pub place : length ((after_moves moves move).submitted s.port) ≡ sent_before hs s.port i
  pub time : IsWithin s (clock move)

-- the i-th entry is the port's receipt of its number, made while the call ran, and the event is that of the pair that it received
pub record WasGot (hs : List Seen) (moves : List Move) (v : World) (clock : ℕ → ℕ) (i : ℕ) (s : Seen) (e : Event) : Type 0 where
  pub move : ℕ
  pub made : slice_get moves move ≡ Some (Receives s.port)
  pub place : (after_moves moves move).received s.port ≡ got_before hs s.port i
  pub pair : ℕ × ℕ
  pub received : slice_get (out v.log s.port) (got_before hs s.port i) ≡ Some pair
  pub event : Event
  pub accepted : event_at v.log pair.0 pair.1 ≡ Some event
  pub same : IsSameBut e event
  pub time : IsWithin s (clock move)

abbrev pub WasDone : List Seen → List Move → World → (ℕ → ℕ) → ℕ → Seen → Deed → Type 0
WasDone hs moves v clock i s (Sent r) = WasSent hs moves clock i s r
WasDone hs moves v clock i s (Got e) = WasGot hs moves v clock i s e

-- The moves, each at its time, lead to the world, and fit what was seen: each entry is one of a port's submissions or receipts, and
-- there are no others.
pub record Explains (p : Plan) (hs : List Seen) (moves : List Move) (v : World) (clock : ℕ → ℕ) : Type 0 where
  pub run : LeadsTo p empty moves v
  pub rises : (j k : ℕ) → j ≤ k → clock j ≤ clock k
  pub each : (i : ℕ) (s : Seen) → slice_get hs i ≡ Some s → WasDone hs moves v clock i s s.deed
  pub received : (l : ℕ) → l < length p.ports → v.received l ≡ count_by (is_got l) hs
  pub submitted : (l : ℕ) → l < length p.ports → length (v.submitted l) ≡ count_by (is_sent l) hs

-- no run fits
abbrev pub IsImpossible : Plan → List Seen → Type 0
IsImpossible p hs = (moves : List Move) (v : World) (clock : ℕ → ℕ) → ¬ Explains p hs moves v clock

-- ---- what is held for certain

-- whether it is one of the port's answers, of a call that began at t or before
abbrev pub is_answer_begun : ℕ → ℕ → Seen → Bool
is_answer_begun l t s = is_answered l s && nat_le s.began t

abbrev pub answers_begun : List Seen → ℕ → ℕ → ℕ
answers_begun hs l t = count_by (is_answer_begun l t) hs

-- whether it is one of the port's dequeues, of a call that ended at t or before
abbrev pub is_got_ended : ℕ → ℕ → Seen → Bool
is_got_ended l t s = is_got l s && nat_le s.ended t

abbrev pub gots_ended : List Seen → ℕ → ℕ → ℕ
gots_ended hs l t = count_by (is_got_ended l t) hs

-- how many events the port has for certain at t: those that it got by then, less as many as answers of its began by then
abbrev pub held_surely : List Seen → ℕ → ℕ → ℕ
held_surely hs t l = gots_ended hs l t - answers_begun hs l t

-- at t the port has the event: it got it, and even if each answer was made when its call began, its own wasn't
pub record IsHeldAt (hs : List Seen) (i : ℕ) (t : ℕ) (s : Seen) : Type 0 where
  pub entry : slice_get hs i ≡ Some s
  pub got : gets s.deed ≡ true
  pub since : s.ended ≤ t
  pub unanswered : answers_begun hs s.port t ≤ got_before hs s.port i
