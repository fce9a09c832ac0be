-- What the check of a log knows of the steps that it has read, and which answer it waits for.
use Rattle.std.specs.Prelude.{ℕ, ◌≡◌, ◌<◌, List, [], length, map, slice_get, slice_index, slice_index_or, Option, Some, None}
use Rattle.evt_types.specs.declared.event.Event.{Event}
use Rattle.evt_types.specs.declared.step.Outcome.{Outcome}
use Rattle.evt_types.specs.declared.step.Outcome.TheVariants.{Released}
use Rattle.evt_types.specs.declared.step.Step.{Step}
use Rattle.evt_types.specs.declared.step.Step.TheVariants.{Accept, Give, Done, More, Turned, Bounced, Shut}
use Rattle.pipeline_laws.specs.Worked.{answer_to, due}
use Rattle.pipeline_laws.specs.declared.past.Past.{Past}
use Rattle.pipeline_laws.specs.declared.stage.Action.{Action}
use Rattle.std.specs.declared.alloc.Global.{Global}
use Rattle.std.specs.declared.vec.Vec.{Vec}
use Rattle.transcripts.specs.Transcript.{accepted, answers, next_pair, out}

-- lists that stand in a list; one that isn't there is empty
abbrev pub rows : {X : Type 0} → List (Vec X Global) → List (List X)
rows {X} lists = map (λ (list : Vec X Global). list.items) lists

abbrev pub row : {X : Type 0} → List (List X) → ℕ → List X
row lists n = slice_index_or lists n []

-- the lists are of what the first queues accepted
abbrev pub HoldAccepted : List Step → List (Vec Event Global) → Type 0
HoldAccepted T lists = (q : ℕ) → q < length lists → row (rows lists) q ≡ accepted T q

-- the event that a step accepts, with its queue
abbrev pub accepted_by_step : Step → Option (ℕ × Event)
accepted_by_step (Accept q e s) = Some (q, e)
accepted_by_step s = None

-- it knows what each queue accepted, what each lane was given, and how many of these the lane answered
pub record Follows (T : List Step) (past : Past) : Type 0 where
  pub accepted : (q : ℕ) → row (rows past.accepted.items) q ≡ accepted T q
  pub given : (l : ℕ) → row (rows past.given.items) l ≡ out T l
  pub answered : (l : ℕ) → slice_index past.answered.items l ≡ length (answers T l)

-- the pair that the lane answers next, and the event of a queue and number
abbrev pub next_in : Past → ℕ → Option (ℕ × ℕ)
next_in past l = slice_get (row (rows past.given.items) l) (slice_index past.answered.items l)

abbrev pub event_in : Past → ℕ → ℕ → Option Event
event_in past q n = slice_get (row (rows past.accepted.items) q) n

-- the answer that the lane owes next
abbrev pub owed_to : List Action → Past → Option (ℕ × ℕ) → Outcome
owed_to actions past None = Released
owed_to actions past (Some x) = answer_to actions x.0 (event_in past x.0 x.1)

abbrev pub owed : List Action → Past → ℕ → Outcome
owed actions past l = owed_to actions past (next_in past l)

-- the same by the transcript
abbrev pub due_to : List Action → List Step → Option (ℕ × ℕ) → Outcome
due_to actions T None = Released
due_to actions T (Some x) = due actions T x

abbrev pub due_next : List Action → List Step → ℕ → Outcome
due_next actions T l = due_to actions T (next_pair T l)

-- the step after T, where it is an answer, is the one that is due; an added event never is
abbrev pub IsDueAfter : List Action → List Step → Step → Type 0
IsDueAfter actions T (Done l o) = o ≡ due_next actions T l
IsDueAfter actions T (Accept q e s) = Unit {0}
IsDueAfter actions T (Give l q n) = Unit {0}
IsDueAfter actions T (More l e) = ⊥
IsDueAfter actions T (Turned l e) = Unit {0}
IsDueAfter actions T (Bounced l) = Unit {0}
IsDueAfter actions T Shut = Unit {0}

-- an unanswered event of the lane is there
pub record HasUnanswered (past : Past) (l : ℕ) : Type 0 where
  pub given : l < length past.given.items
  pub answered : l < length past.answered.items
  pub some : slice_index past.answered.items l < length (row (rows past.given.items) l)

-- what the step names is there
abbrev pub HasPlace : Past → Step → Type 0
HasPlace past (Accept q e s) = q < length past.accepted.items
HasPlace past (Give l q n) = l < length past.given.items
HasPlace past (Done l o) = HasUnanswered past l
HasPlace past (More l e) = Unit {0}
HasPlace past (Turned l e) = Unit {0}
HasPlace past (Bounced l) = Unit {0}
HasPlace past Shut = Unit {0}

-- as many queues and lanes
pub record HasSizes (past : Past) (queues lanes : ℕ) : Type 0 where
  pub accepted : length past.accepted.items ≡ queues
  pub given : length past.given.items ≡ lanes
  pub answered : length past.answered.items ≡ lanes
