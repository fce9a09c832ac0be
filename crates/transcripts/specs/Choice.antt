-- Choice: which waiting event is given next, and to which lane (own; Software Eventdev, "Event Priorities", "Scheduling Quanta").
use Rattle.std.specs.Prelude.{ℕ, ◌≡◌, ◌≢◌, ◌<◌, Bool, true, false, ◌&&◌, ◌||◌, List, ◌==◌, nat_lt, length, All, Contains, slice_index, slice_index_or, ◌⊎◌}
use Rattle.evt_types.specs.Plan.{Plan, lanes_of, depth_of, queue_of, level_of, slot_of, serves, is_atomic, is_ordered}
use Rattle.transcripts.specs.Lawful.{keeps_order}
use Rattle.transcripts.specs.Transcript.{Held}
use Rattle.transcripts.specs.Standing.{View, waiting_at, places_at, unanswered_at}
use Rattle.evt_types.specs.declared.event.Numbered.{Numbered}

-- what a sweep passes over: per lane whether its ring refused a delivery in this sweep, per queue how many were given
pub record Passed : Type 0 where
  pub bounced : List Bool
  pub given : List ℕ

abbrev pub has_bounced : Passed → ℕ → Bool
has_bounced s l = slice_index_or s.bounced l false

-- the queue was given fewer events in this sweep than the sweep quantum
abbrev pub HasQuota : View → Passed → ℕ → Type 0
HasQuota v s q = slice_index s.given q < v.shape.sweep

-- the event waits in the queue
abbrev pub WaitsIn : View → ℕ → Numbered → Type 0
WaitsIn v q w = Contains (waiting_at v q) w

-- no lane but l has an unanswered event of the slot
abbrev pub HasNoOther : View → ℕ → ℕ → ℕ → Type 0
HasNoOther v l q slot = (m : ℕ) → m ≢ l → All (λ (y : Held). y.queue ≡ q → y.slot ≢ slot) (unanswered_at v m)

-- the lane fits the event of the queue
pub record Fits (v : View) (s : Passed) (l q : ℕ) (w : Numbered) : Type 0 where
  pub lane : l < lanes_of v.shape
  pub ready : has_bounced s l ≡ false
  pub linked : serves v.shape l q (slot_of v.shape q w.event.flow) ≡ true
  pub room : length (unanswered_at v l) < depth_of v.shape l
  pub alone : is_atomic (queue_of v.shape q).kind ≡ true → HasNoOther v l q (slot_of v.shape q w.event.flow)
  pub places : is_ordered (queue_of v.shape q).kind ≡ true → length (places_at v q) < (queue_of v.shape q).order

-- no lane fits an event of the queue
abbrev pub HasNone : View → Passed → ℕ → Type 0
HasNone v s q = (w : Numbered) → WaitsIn v q w → (m : ℕ) → ¬ Fits v s m q w

-- nothing is left to give in this sweep
abbrev pub HasNoChoice : View → Passed → Type 0
HasNoChoice v s = (q : ℕ) → q < length v.shape.queues → HasQuota v s q → HasNone v s q

-- The waiting event w of q may be given to the lane: the transcript stays lawful.
pub record IsOffer (v : View) (l q : ℕ) (w : Numbered) : Type 0 where
  pub queue : q < length v.shape.queues
  pub lane : l < lanes_of v.shape
  pub waits : WaitsIn v q w
  pub linked : serves v.shape l q (slot_of v.shape q w.event.flow) ≡ true
  pub room : length (unanswered_at v l) < depth_of v.shape l
  pub alone : is_atomic (queue_of v.shape q).kind ≡ true → HasNoOther v l q (slot_of v.shape q w.event.flow)
  pub places : is_ordered (queue_of v.shape q).kind ≡ true → length (places_at v q) < (queue_of v.shape q).order
  pub flow : All (λ (u : Numbered). u.number < w.number → keeps_order v.shape q u.event w.event ≡ false) (waiting_at v q)

-- one event comes before another of its queue: by level, then number
abbrev pub is_earlier : Numbered → Numbered → Bool
is_earlier u w = nat_lt (level_of u.event) (level_of w.event) || ((level_of u.event == level_of w.event) && nat_lt u.number w.number)

-- of two lanes, the one with fewer unanswered events, then the lower number
abbrev pub IsBetterLane : View → ℕ → ℕ → Type 0
IsBetterLane v m l =
    (length (unanswered_at v m) < length (unanswered_at v l)) ⊎ ((length (unanswered_at v m) ≡ length (unanswered_at v l)) × (m < l))

-- of two queues, the one of lower priority number, then the lower number
abbrev pub IsServedBefore : Plan → ℕ → ℕ → Type 0
IsServedBefore p r q = ((queue_of p r).priority < (queue_of p q).priority) ⊎ (((queue_of p r).priority ≡ (queue_of p q).priority) × (r < q))

-- the choice of a sweep: the first queue that has a fitting event, its first such event, the best lane for it
pub record IsChoice (v : View) (s : Passed) (l q : ℕ) (w : Numbered) : Type 0 where
  pub there : q < length v.shape.queues
  pub quota : HasQuota v s q
  pub waits : WaitsIn v q w
  pub fits : Fits v s l q w
  pub lane : (m : ℕ) → Fits v s m q w → ¬ IsBetterLane v m l
  pub event : (u : Numbered) (m : ℕ) → WaitsIn v q u → Fits v s m q u → is_earlier u w ≡ false
  pub queue : (r : ℕ) → r < length v.shape.queues → HasQuota v s r → IsServedBefore v.shape r q → HasNone v s r
