-- Replies of a lane that are taken in a row.
use Rattle.std.specs.Prelude.{ℕ, ◌≡◌, ◌+◌, ◌<◌, ◌≤◌, ◌^◌, false, List, [], ◌∷◌, length, map, All, Some}
use Rattle.evt_types.specs.Plan.{bound_of, level_of}
use Rattle.evt_types.specs.declared.event.Event.{Event}
use Rattle.evt_types.specs.declared.event.Op.TheVariants as ops
use Rattle.evt_types.specs.declared.event.Reply.{Reply}
use Rattle.evt_types.specs.declared.step.Outcome.{Outcome}
use Rattle.evt_types.specs.declared.step.Outcome.TheVariants.{Released}
use Rattle.transcripts.specs.Standing.{View, accepts_from, accepts_of, after_accept, after_done, entries_of, events_of, inside_of, kept_in, oldest_at}
use Rattle.transcripts.specs.Transcript.{Held}

-- the replies of a lane, each the lane with its event
abbrev pub row_of : ℕ → List Reply → List (ℕ × Event)
row_of l rs = map (λ (r : Reply). (l, r.event)) rs

-- the same operation, queue and priority
pub record IsLike (d e : Event) : Type 0 where
  pub op : e.op ≡ d.op
  pub queue : e.queue ≡ d.queue
  pub priority : e.priority ≡ d.priority

-- a NEW for the queue, of the level
pub record IsNewOf (q c : ℕ) (r : Reply) : Type 0 where
  pub op : r.event.op ≡ ops.New
  pub queue : r.event.queue ≡ q
  pub level : level_of r.event ≡ c

-- NEWs of a port's own lane for a queue and of a level, for all of which there is room
pub record IsNewRow (v : View) (l q c : ℕ) (rs : List Reply) : Type 0 where
  pub port : l < length v.shape.ports
  pub queue : q < length v.shape.queues
  pub unshut : v.shut ≡ false
  pub inside : inside_of v + length rs ≤ bound_of v.shape
  pub entries : entries_of v + length rs ≤ 2 ^ 63
  pub each : All (IsNewOf q c) rs

-- a RELEASE
abbrev pub IsRelease : Reply → Type 0
IsRelease r = r.event.op ≡ ops.Release

-- a FORWARD to the queue
pub record IsForwardTo (q : ℕ) (r : Reply) : Type 0 where
  pub op : r.event.op ≡ ops.Forward
  pub queue : r.event.queue ≡ q

-- ---- events that wait

-- an event for the queue, of the level
pub record IsFor (q c : ℕ) (r : Reply) : Type 0 where
  pub queue : r.event.queue ≡ q
  pub level : level_of r.event ≡ c

-- events for a queue and of a level, for all of which there is room
pub record HasRoomFor (v : View) (q c : ℕ) (rs : List Reply) : Type 0 where
  pub queue : q < length v.shape.queues
  pub inside : inside_of v + length rs ≤ bound_of v.shape
  pub entries : entries_of v + length rs ≤ 2 ^ 63
  pub each : All (IsFor q c) rs

-- they wait in the queue, one after the other
abbrev pub after_waiting : View → ℕ → List Reply → View
after_waiting v q [] = v
after_waiting v q (r ∷ rs) = after_waiting (after_accept v q r.event) q rs

-- ---- events that are answered

-- The lane's oldest event is the queue's. If it is answered, nothing that was kept leaves with it, and beside what it is passed on as
-- the answer makes no difference.
pub record LeavesAlone (v : View) (l q : ℕ) (h : Held) : Type 0 where
  pub oldest : oldest_at v l ≡ Some h
  pub queue : h.queue ≡ q
  pub accepts : (o : Outcome) → accepts_of v (Some h) o ≡ accepts_from q h.number (events_of o)
  pub done : (o : Outcome) → after_done v l o ≡ after_done v l Released
  pub kept : kept_in (after_done v l Released) ≡ kept_in v

-- so it is with each of these, once those before it are answered
abbrev pub LeaveInTurn : View → ℕ → ℕ → List Held → Type 0
LeaveInTurn v l q [] = Unit {0}
LeaveInTurn v l q (h ∷ hs) = LeavesAlone v l q h × LeaveInTurn (after_done v l Released) l q hs

-- The lane's oldest event is this one. If it is released, nothing that was kept leaves with it.
pub record IsLetGo (v : View) (l : ℕ) (h : Held) : Type 0 where
  pub oldest : oldest_at v l ≡ Some h
  pub accepts : accepts_of v (Some h) Released ≡ []
  pub kept : kept_in (after_done v l Released) ≡ kept_in v

-- so it is with each of these, once those before it are released
abbrev pub AreLetGo : View → ℕ → List Held → Type 0
AreLetGo v l [] = Unit {0}
AreLetGo v l (h ∷ hs) = IsLetGo v l h × AreLetGo (after_done v l Released) l hs
