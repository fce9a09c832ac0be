-- Lawful: what holds of every prefix of a transcript, clause by clause, as facts about its lists. (The promises of atomic,
-- ordered and single-link queues: Event Device Library, "Queues"; rte_eventdev, RTE_SCHED_TYPE_*; Software Eventdev, "Queues".)
use Rattle.std.specs.Prelude.{ℕ, ◌≡◌, ◌≢◌, ◌<◌, ◌≤◌, Bool, true, false, ◌&&◌, List, [], ◌∷◌, ◌++◌, ◌==◌, length, take, filter, All, AllPairs, Contains, slice_index_or, if◌then◌else◌, Option, Some, None}
use Rattle.evt_types.specs.Plan.{Plan, lanes_of, depth_of, bound_of, queue_of, level_of, serves, is_atomic, is_ordered}
use Rattle.lists.specs.Lists.{has}
use Rattle.transcripts.specs.Transcript.{accepted, entered, event_at, slot_at, out, answers, unanswered, unanswered_slots, Held, hand, given, sources, taken, forwards, extras, kept, open_of, inside, is_answered, is_shut, is_new, is_from_of, is_turned}
use Rattle.lists.specs.Lists.{upto}
use Rattle.evt_types.specs.Operation.{passes_on}
use Rattle.evt_types.specs.declared.event.Event.{Event}
use Rattle.evt_types.specs.declared.event.Numbered.{Numbered}
use Rattle.evt_types.specs.declared.event.Op.TheVariants as ops
use Rattle.evt_types.specs.Limits.{most_extras}
use Rattle.evt_types.specs.declared.step.Outcome.{Outcome}
use Rattle.evt_types.specs.declared.step.Outcome.TheVariants.{Forwarded, Released}
use Rattle.evt_types.specs.declared.step.Source.TheVariants.{New, Of}
use Rattle.evt_types.specs.declared.step.Step.{Step}
use Rattle.evt_types.specs.declared.step.Step.TheVariants.{Accept, Give, Done, More, Turned, Bounced, Shut}

-- xs stands at the front of ys
abbrev pub IsPrefix : {X : Type 0} → List X → List X → Type 0
IsPrefix {X} xs ys = (zs : List X) × (xs ++ zs ≡ ys)

-- for every prefix
abbrev pub EachPrefix : (List Step → Type 0) → List Step → Type 0
EachPrefix P T = (k : ℕ) → k ≤ length T → P (take k T)

-- ---- (formed) a step names queues and lanes that are there, and has the operation that fits

-- an accepted event's queue is there and is its own
pub record IsEntry (p : Plan) (q : ℕ) (e : Event) : Type 0 where
  pub queue : q < length p.queues
  pub named : e.queue ≡ q

-- of a port's own lane: a flow lane has answers alone
pub record IsNewEntry (p : Plan) (q : ℕ) (e : Event) (l : ℕ) : Type 0 where
  pub entry : IsEntry p q e
  pub operation : e.op ≡ ops.New
  pub lane : l < length p.ports

pub record IsForwardEntry (p : Plan) (q : ℕ) (e : Event) (r : ℕ) : Type 0 where
  pub entry : IsEntry p q e
  pub operation : passes_on e.op ≡ true
  pub source : r < length p.queues

pub record IsHandOver (p : Plan) (l q : ℕ) : Type 0 where
  pub lane : l < lanes_of p
  pub queue : q < length p.queues

-- a forwarded event's queue is there
abbrev pub IsOutcome : Plan → Outcome → Type 0
IsOutcome p (Forwarded e) = (e.queue < length p.queues) × (e.op ≡ ops.Forward)
IsOutcome p Released = Unit {0}

-- an added event's queue is there
abbrev pub IsAddition : Plan → Event → Type 0
IsAddition p e = (e.queue < length p.queues) × (e.op ≡ ops.ForwardMore)

pub record IsTurnedAway (p : Plan) (l : ℕ) (e : Event) : Type 0 where
  pub queue : e.queue < length p.queues
  pub operation : e.op ≡ ops.New
  pub lane : l < length p.ports

abbrev pub IsFormed : Plan → Step → Type 0
IsFormed p (Accept q e (New l)) = IsNewEntry p q e l
IsFormed p (Accept q e (Of r n)) = IsForwardEntry p q e r
IsFormed p (Give l q n) = IsHandOver p l q
IsFormed p (Done l o) = (l < lanes_of p) × IsOutcome p o
IsFormed p (More l e) = (l < lanes_of p) × IsAddition p e
IsFormed p (Turned l e) = IsTurnedAway p l e
IsFormed p (Bounced l) = l < lanes_of p
IsFormed p Shut = Unit {0}

-- ---- (answers) a lane answers no more than it was given
abbrev pub AnswersWhatItHas : List Step → Type 0
AnswersWhatItHas T = (l : ℕ) → length (answers T l) ≤ length (out T l)

-- ---- (extras) events are added beside an unanswered event alone, and no more than a few (own)
pub record AddsFew (T : List Step) : Type 0 where
  pub few : (l : ℕ) → length (extras T l) ≤ most_extras
  pub beside : (l : ℕ) → unanswered T l ≡ [] → extras T l ≡ []

-- ---- (once) what is given was accepted before, and is given once
pub record GivesOnce (T : List Step) : Type 0 where
  pub accepted : (q : ℕ) → All (λ n. n < length (accepted T q)) (hand T q)
  pub once : (q : ℕ) → AllPairs (λ m n. m ≢ n) (hand T q)

-- ---- (linked) a lane is given events of queues and slots that it serves
abbrev pub IsLinked : Plan → List Step → Type 0
IsLinked p T = (l : ℕ) → All (λ (x : ℕ × ℕ). serves p l x.0 (slot_at p T x.0 x.1) ≡ true) (out T l)

-- ---- (room) no lane has more unanswered events than its depth, no ordered queue more open numbers than its order
pub record HasRoom (p : Plan) (T : List Step) : Type 0 where
  pub lanes : (l : ℕ) → length (unanswered T l) ≤ depth_of p l
  pub places : (q : ℕ) → is_ordered (queue_of p q).kind ≡ true → length (open_of T q) ≤ (queue_of p q).order
  pub inside : inside p T ≤ bound_of p

-- ---- (flow) of an atomic queue the given events of one flow and level are the first accepted ones of them, in order; of an
-- ordered queue those of one level

abbrev pub is_of_flow : ℕ → ℕ → Numbered → Bool
is_of_flow f c w = (w.event.flow == f) && (level_of w.event == c)

abbrev pub is_of_level : ℕ → Numbered → Bool
is_of_level c w = level_of w.event == c

-- of the events that pass, the given ones, in the order of their Gives, are a prefix of the accepted ones
abbrev pub AreGivenInOrder : (Numbered → Bool) → List Step → ℕ → Type 0
AreGivenInOrder passes T q = IsPrefix (filter passes (given T q)) (filter passes (entered T q))

pub record KeepsFlow (p : Plan) (T : List Step) : Type 0 where
  pub atomic : (q : ℕ) → is_atomic (queue_of p q).kind ≡ true → (f c : ℕ) → AreGivenInOrder (is_of_flow f c) T q
  pub ordered : (q : ℕ) → is_ordered (queue_of p q).kind ≡ true → (c : ℕ) → AreGivenInOrder (is_of_level c) T q

-- ---- (alone) unanswered events of one slot of an atomic queue stand on one lane

abbrev pub AreApart : ℕ → Held → Held → Type 0
AreApart q x y = x.queue ≡ q → y.queue ≡ q → x.slot ≢ y.slot

abbrev pub IsAlone : Plan → List Step → Type 0
IsAlone p T =
    (q : ℕ) → is_atomic (queue_of p q).kind ≡ true → (l m : ℕ) → l ≢ m → All (λ (x : Held). All (AreApart q x) (unanswered_slots p T m)) (unanswered_slots p T l)

-- ---- (order) what an ordered queue's events are passed on as is accepted in hand-out order, each event once all as far as its
-- number are answered; of an atomic queue's events of one flow and level the numbers don't fall

pub record IsInHandOrder (T : List Step) (q : ℕ) : Type 0 where
  pub order : AllPairs (λ m n. has m (upto n (hand T q)) ≡ true) (sources T q)
  pub answered : All (λ n. All (λ m. is_answered T q m ≡ true) (upto n (hand T q))) (sources T q)

-- whether two events of the queue keep their order: of one level, and for an atomic queue of one flow. A parallel queue keeps none.
abbrev pub keeps_order : Plan → ℕ → Event → Event → Bool
keeps_order p q d e =
    if level_of d == level_of e then (if is_ordered (queue_of p q).kind then true else is_atomic (queue_of p q).kind && (d.flow == e.flow)) else false

abbrev pub keeps_some : Plan → ℕ → Option Event → Option Event → Bool
keeps_some p q None e = false
keeps_some p q (Some d) None = false
keeps_some p q (Some d) (Some e) = keeps_order p q d e

-- the same of two numbers
abbrev pub keeps_with : Plan → List Step → ℕ → ℕ → ℕ → Bool
keeps_with p T q m n = keeps_some p q (event_at T q m) (event_at T q n)

abbrev pub IsRising : Plan → List Step → ℕ → Type 0
IsRising p T q = AllPairs (λ m n. keeps_with p T q m n ≡ true → m ≤ n) (sources T q)

pub record KeepsOrder (p : Plan) (T : List Step) : Type 0 where
  pub ordered : (q : ℕ) → is_ordered (queue_of p q).kind ≡ true → IsInHandOrder T q
  pub atomic : (q : ℕ) → is_atomic (queue_of p q).kind ≡ true → IsRising p T q

-- ---- (origin) the i-th event accepted from a number is the i-th that it was passed on as
abbrev pub HasOrigin : List Step → Type 0
HasOrigin T = (q n : ℕ) → IsPrefix (taken T q n) (forwards T q n)

-- ---- (closed) after Shut nothing new is accepted, before it nothing is turned away, and it stands at most once

-- the steps before the first Shut, and those after it
abbrev pub until_shut : List Step → List Step
until_shut [] = []
until_shut (s ∷ T) = if is_shut s then [] else s ∷ until_shut T

abbrev pub since_shut : List Step → List Step
since_shut [] = []
since_shut (s ∷ T) = if is_shut s then T else since_shut T

pub record IsClosed (T : List Step) : Type 0 where
  pub no_new : All (λ s. is_new s ≡ false) (since_shut T)
  pub no_turned : All (λ s. is_turned s ≡ false) (until_shut T)
  pub one : All (λ s. is_shut s ≡ false) (since_shut T)

-- ---- (prompt) each kept event is one of an ordered queue, and its own number or one before it in the hand-out is unanswered

abbrev pub IsSettled : Plan → List Step → Type 0
IsSettled p T =
    (q : ℕ) → All (λ (x : ℕ × Event). (is_ordered (queue_of p q).kind ≡ true) × ((m : ℕ) × Contains (upto x.0 (hand T q)) m × (is_answered T q m ≡ false))) (kept T q)

-- at the end, and before each step that isn't an Accept of what was passed on
pub record IsPrompt (p : Plan) (T : List Step) : Type 0 where
  pub end : IsSettled p T
  pub before : (k : ℕ) (d : Step) → k < length T → is_from_of (slice_index_or T k d) ≡ false → IsSettled p (take k T)

pub record Lawful (p : Plan) (T : List Step) : Type 0 where
  pub formed : All (IsFormed p) T
  pub answers : EachPrefix AnswersWhatItHas T
  pub extras : EachPrefix AddsFew T
  pub once : EachPrefix GivesOnce T
  pub linked : EachPrefix (IsLinked p) T
  pub room : EachPrefix (HasRoom p) T
  pub flow : EachPrefix (KeepsFlow p) T
  pub alone : EachPrefix (IsAlone p) T
  pub order : EachPrefix (KeepsOrder p) T
  pub origin : EachPrefix HasOrigin T
  pub closed : EachPrefix IsClosed T
  pub prompt : IsPrompt p T
