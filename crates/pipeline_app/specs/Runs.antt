-- What the program writes of a pipeline: the text of the plain pipeline, which one thread would compute from the trace.
use Rattle.std.specs.Prelude.{ℕ, ◌≡◌, ◌≤◌, ◌<◌, List, [], Option, Ok, Err, IfSome, All, length, map}
use Rattle.std.specs.Io.KnownBytes.{Appends, Keeps}
use Rattle.evt_types.specs.Plan.{port_of}
use Rattle.evt_types.specs.declared.draft.Serving.TheVariants.{Flows}
use Rattle.evt_types.specs.declared.step.Step.{Step}
use Rattle.pipeline_laws.specs.Pipeline.{IsProper}
use Rattle.pipeline_laws.specs.RunText.{plain_text}
use Rattle.pipeline_laws.specs.Worked.{AnswersAreDue, IsFinished, IsStaged, IsWorked, new_event, newcomers}
use Rattle.pipeline_threads.specs.declared.fault.RunFault.{RunFault}
use Rattle.pipeline_threads.specs.declared.fault.RunFault.TheVariants as runs
use Rattle.command_line.specs.Output.{AppendsPrefix}
use Rattle.command_line.specs.declared.fault.AppFault.{AppFault}
use Rattle.command_line.specs.declared.fault.AppFault.TheVariants as app
use Rattle.play_documents.specs.Document.{IsNamedDoc}
use Rattle.pipeline_threads.specs.Run.{AreWorks}
use Rattle.pipeline_app.specs.declared.counted.StatsForm.{StatsForm}
use Rattle.pipeline_app.specs.declared.counted.StatsForm.TheVariants.{Text, Json}
use Rattle.run_counts.specs.CountsJson.{counts_json}
use Rattle.run_counts.specs.CountsText.{counts_text}
use Rattle.run_counts.specs.Waiting.{AreWorksOf}
use Rattle.run_counts.specs.declared.text.Counts.{Counts}
use Rattle.run_documents.specs.Pipelines.{Planned, pipeline_of}
use Rattle.transcripts.specs.Lawful.{IsPrefix, Lawful}
use Rattle.transcripts.specs.Laws.{AddsNone}

-- The text of the plain pipeline of a document for so many workers, of that one which the reader tells, where it tells its bytes.
pub record HasText (workers : ℕ) (known : Option (List ℕ)) (text : List ℕ) : Type 0 where
  pub said : Planned
  pub plain : text ≡ plain_text said.actions said.trace
  pub document : IfSome known (λ input. pipeline_of workers input ≡ Ok said)

-- the text was written after what was there
abbrev pub WritesText : ℕ → Option (List ℕ) → Option (List ℕ) → Option (List ℕ) → Type 0
WritesText workers known old new = (text : List ℕ) × HasText workers known text × Appends old new text

-- a first part of it was
abbrev pub WritesPart : ℕ → Option (List ℕ) → Option (List ℕ) → Option (List ℕ) → Type 0
WritesPart workers known old new = (text : List ℕ) × HasText workers known text × AppendsPrefix old new text

-- after a write's fault a first part of the text was written, after another nothing
abbrev pub AfterFault : ℕ → Option (List ℕ) → Option (List ℕ) → Option (List ℕ) → AppFault → Type 0
AfterFault workers known old new app.Write = WritesPart workers known old new
AfterFault workers known old new app.Read = Keeps old new
AfterFault workers known old new (app.Document f) = Keeps old new
AfterFault workers known old new app.Memory = Keeps old new
AfterFault workers known old new app.NoSeat = Keeps old new
AfterFault workers known old new (app.Strayed log) = Keeps old new

-- This log of a run of the pipeline, which flow lanes serve, strays: to its end the whole trace went in and came out, and it has an answer
-- that isn't its stage's action of the event that it answers, or an event that was added beside another.
pub record Strays (p : Planned) (log : List Step) : Type 0 where
  pub flows : p.plan.serving ≡ Flows
  pub lawful : Lawful p.plan log
  pub newcomers : IsPrefix (newcomers log) (map new_event p.trace)
  pub finished : IsFinished p.plan p.trace log
  pub strayed : AddsNone log × AnswersAreDue p.actions log → ⊥

-- so does this log of a run of the document
pub record HasStrayed (workers : ℕ) (known : Option (List ℕ)) (log : List Step) : Type 0 where
  pub said : Planned
  pub strays : Strays said log
  pub document : IfSome known (λ input. pipeline_of workers input ≡ Ok said)

-- Which faults come before the first byte is written: a document's where it is its first, and a stray with the log that strays.
abbrev pub IsEarlyFault : ℕ → Option (List ℕ) → AppFault → Type 0
IsEarlyFault workers known app.Write = ⊥
IsEarlyFault workers known app.Read = Unit {0}
IsEarlyFault workers known (app.Document f) = IsNamedDoc f × IfSome known (λ input. pipeline_of workers input ≡ Err f)
IsEarlyFault workers known app.Memory = Unit {0}
IsEarlyFault workers known app.NoSeat = Unit {0}
IsEarlyFault workers known (app.Strayed log) = HasStrayed workers known log.items

-- which faults a run ends with: a stray with the log that strays
abbrev pub IsFaultOf : ℕ → Option (List ℕ) → AppFault → Type 0
IsFaultOf workers known app.Write = Unit {0}
IsFaultOf workers known app.Read = Unit {0}
IsFaultOf workers known (app.Document f) = IsNamedDoc f × IfSome known (λ input. pipeline_of workers input ≡ Err f)
IsFaultOf workers known app.Memory = Unit {0}
IsFaultOf workers known app.NoSeat = Unit {0}
IsFaultOf workers known (app.Strayed log) = HasStrayed workers known log.items

-- ---- a pipeline that was read

-- there is a worker, port 0 has no links, and the stages are the queues
pub record IsRunnable (p : Planned) : Type 0 where
  pub staged : IsStaged p.plan p.actions
  pub proper : All IsProper p.actions
  pub few : length p.actions ≤ 255
  pub workers : 1 < length p.plan.ports
  pub producer : (port_of p.plan 0).links ≡ []

-- These are the counts of a run of it. To the end of a lawful log, in which each answer is its stage's action, the whole trace went in and
-- came out; of each stage's queue they say how many events it accepted, gave and had waiting at most, and of each port what its thread's
-- looks found, and what that log gave to it.
pub record AreRunCounts (p : Planned) (c : Counts) : Type 0 where
  pub log : List Step
  pub lawful : Lawful p.plan log
  pub worked : IsWorked p.actions p.trace log
  pub finished : IsFinished p.plan p.trace log
  pub queues : AreWorksOf log (length p.plan.queues) c.queues.items
  pub ports : AreWorks p.plan log c.threads.ports.items

-- so are these of a run of the document
pub record HasCounts (workers : ℕ) (known : Option (List ℕ)) (c : Counts) : Type 0 where
  pub said : Planned
  pub counts : AreRunCounts said c
  pub document : IfSome known (λ input. pipeline_of workers input ≡ Ok said)

-- which faults its run ends with: a stray with the log that strays
abbrev pub IsRunFault : Planned → AppFault → Type 0
IsRunFault p app.Write = ⊥
IsRunFault p app.Read = ⊥
IsRunFault p (app.Document f) = ⊥
IsRunFault p app.Memory = Unit {0}
IsRunFault p app.NoSeat = Unit {0}
IsRunFault p (app.Strayed log) = Strays p log.items

abbrev pub run_fault : RunFault → AppFault
run_fault runs.Memory = app.Memory
run_fault runs.NoSeat = app.NoSeat

-- what is said of what was counted
abbrev pub stats_text : StatsForm → Counts → List ℕ
stats_text Text c = counts_text c
stats_text Json c = counts_json c
