-- Where a log stands in what `play` printed, and what the reading of it answers.
use Rattle.std.specs.Prelude.{ℕ, ◌≡◌, ◌≢◌, ◌+◌, ◌^◌, ◌<◌, ◌⊎◌, List, [], ◌∷◌, ◌++◌, length, codes, All, Result, Ok, Err}
use Rattle.std.specs.List.{AllByRecursion}
use Rattle.evt_types.specs.Word.{Fits}
use Rattle.evt_types.specs.declared.draft.QueueDraft.{QueueDraft}
use Rattle.evt_types.specs.declared.event.Event.{Event}
use Rattle.evt_types.specs.declared.step.Outcome.{Outcome}
use Rattle.evt_types.specs.declared.step.Outcome.TheVariants.{Forwarded, Released}
use Rattle.evt_types.specs.declared.step.Source.{Source}
use Rattle.evt_types.specs.declared.step.Source.TheVariants.{New, Of}
use Rattle.evt_types.specs.declared.step.Step.{Step}
use Rattle.evt_types.specs.declared.step.Step.TheVariants.{Accept, Give, Done, More, Turned, Bounced, Shut}
use Rattle.play_text.specs.Text.{IsInRange, number_after, step_line, lines_after}
use Rattle.log_reading.specs.declared.fault.LogFault.{LogFault}
use Rattle.log_reading.specs.declared.fault.LogFault.TheVariants as faults

-- ---- steps of which there can be a value

-- each number of an event is within its width
pub record IsEvent (e : Event) : Type 0 where
  pub fits : Fits e
  pub payload : e.payload < 2 ^ 64

abbrev pub IsSource : Source → Type 0
IsSource (New lane) = lane < 2 ^ 64
IsSource (Of queue number) = (queue < 2 ^ 64) × (number < 2 ^ 64)

abbrev pub IsOutcome : Outcome → Type 0
IsOutcome Released = Unit {0}
IsOutcome (Forwarded e) = IsEvent e

abbrev pub IsStep : Step → Type 0
IsStep (Accept queue e source) = (queue < 2 ^ 64) × IsEvent e × IsSource source
IsStep (Give lane queue number) = (lane < 2 ^ 64) × (queue < 2 ^ 64) × (number < 2 ^ 64)
IsStep (Done lane outcome) = (lane < 2 ^ 64) × IsOutcome outcome
IsStep (More lane e) = (lane < 2 ^ 64) × IsEvent e
IsStep (Turned lane e) = (lane < 2 ^ 64) × IsEvent e
IsStep (Bounced lane) = lane < 2 ^ 64
IsStep Shut = Unit {0}

-- ---- lines

-- no line ends in it
abbrev pub IsLine : List ℕ → Type 0
IsLine bytes = AllByRecursion (λ b. b ≢ 10) bytes

-- the lines, each with its end
abbrev pub lines_text : List (List ℕ) → List ℕ
lines_text [] = []
lines_text (line ∷ lines) = line ++ (codes "\n" ++ lines_text lines)

-- the line of this number, counted from 1, is the first that says `log`, and this stands behind it
pub record BeginsLog (text : List ℕ) (line : ℕ) (behind : List ℕ) : Type 0 where
  pub before : List (List ℕ)
  pub whole : text ≡ lines_text before ++ (codes "log\n" ++ behind)
  pub lines : AllByRecursion (λ l. IsLine l × (l ≢ codes "log")) before
  pub place : line ≡ length before + 1

-- there is a line that says `log`
abbrev pub HasLog : List ℕ → Type 0
HasLog text = (before : List (List ℕ)) × (behind : List ℕ) × AllByRecursion IsLine before × (text ≡ lines_text before ++ (codes "log\n" ++ behind))

-- behind a log: nothing, or the line `report` and what follows it
abbrev pub IsEnd : List ℕ → Type 0
IsEnd text = (text ≡ []) ⊎ ((more : List ℕ) × (text ≡ codes "report\n" ++ more))

-- ---- logs

-- the text begins with the lines of these steps of a device with these queues, and the log ends there
pub record AreSteps (qs : List QueueDraft) (text : List ℕ) (T : List Step) : Type 0 where
  pub after : List ℕ
  pub lines : text ≡ lines_after qs [] T ++ after
  pub end : IsEnd after
  pub there : All (IsInRange (length qs)) T

-- it begins with the lines of some steps, so many, and then comes a line that no step has there
pub record EndsBadly (qs : List QueueDraft) (text : List ℕ) (count : ℕ) : Type 0 where
  pub steps : List Step
  pub rest : List ℕ
  pub lines : text ≡ lines_after qs [] steps ++ rest
  pub place : count ≡ length steps
  pub unended : ¬ IsEnd rest
  pub none : (s : Step) (more : List ℕ) → IsStep s → IsInRange (length qs) s → ¬ (rest ≡ step_line qs (number_after steps s) s ++ more)

-- in the text's line of this number the log of these steps begins, from its line `log` to its end
pub record IsLogAt (qs : List QueueDraft) (text : List ℕ) (T : List Step) (line : ℕ) : Type 0 where
  pub behind : List ℕ
  pub begin : BeginsLog text line behind
  pub steps : AreSteps qs behind T

-- the text's line of this number is behind a log's first lines, and isn't what stands there in any log
pub record IsBadLine (qs : List QueueDraft) (text : List ℕ) (bad : ℕ) : Type 0 where
  pub line : ℕ
  pub behind : List ℕ
  pub count : ℕ
  pub begin : BeginsLog text line behind
  pub steps : EndsBadly qs behind count
  pub place : bad ≡ line + count + 1

-- ---- what the reading answers

-- why the reading of the steps behind the line of this number ends: a line behind the first ones is bad
abbrev pub IsBadAt : List QueueDraft → List ℕ → ℕ → LogFault → Type 0
IsBadAt qs text line (faults.Line bad) = (count : ℕ) × EndsBadly qs text count × (bad ≡ line + count + 1)
IsBadAt qs text line faults.None = ⊥
IsBadAt qs text line faults.Memory = Unit {0}

-- why: there is no log, or a line is bad
abbrev pub IsCause : List QueueDraft → List ℕ → LogFault → Type 0
IsCause qs text faults.None = ¬ HasLog text
IsCause qs text (faults.Line line) = IsBadLine qs text line
IsCause qs text faults.Memory = Unit {0}

-- these steps were read, unless memory ran out
abbrev pub ReadsSteps : {X : Type 0} → Result X LogFault → (X → Type 0) → Type 0
ReadsSteps (Ok x) P = P x
ReadsSteps (Err faults.Memory) P = Unit {0}
ReadsSteps (Err faults.None) P = ⊥
ReadsSteps (Err (faults.Line line)) P = ⊥
