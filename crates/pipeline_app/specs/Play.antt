-- What the program writes: the run of a script, as text, as JSON or as a picture of its log.
use Rattle.std.specs.Prelude.{ℕ, ◌≡◌, List, Option, Ok, Err, IfSome}
use Rattle.std.specs.declared.alloc.Global.{Global}
use Rattle.std.specs.declared.vec.Vec.{Vec}
use Rattle.std.specs.Io.KnownBytes.{Appends, Keeps}
use Rattle.event_answers.specs.declared.report.Report.{Report}
use Rattle.event_device.specs.Home.{Stops}
use Rattle.event_device.specs.Parts.{Parts}
use Rattle.event_device.specs.Start.{IsFresh}
use Rattle.event_device.specs.Stop.{steps_in}
use Rattle.evt_types.specs.declared.step.Step.{Step}
use Rattle.evt_types.specs.Plan.{Plan, lanes_of}
use Rattle.command_line.specs.Output.{AppendsPrefix}
use Rattle.command_line.specs.declared.fault.AppFault.{AppFault}
use Rattle.command_line.specs.declared.fault.AppFault.TheVariants as app
use Rattle.play_documents.specs.Command.{Line}
use Rattle.play_documents.specs.Document.{Planned, IsNamedDoc, document_of}
use Rattle.json_lines.specs.Lines.{json_text}
use Rattle.play_text.specs.Text.{text_of}
use Rattle.play_text.specs.declared.answer.Answer.{Answer}
use Rattle.timelines.specs.Picture.{picture}
use Rattle.pipeline_app.specs.Commands.{ArePlayed}
use Rattle.pipeline_app.specs.declared.form.Form.{Form}
use Rattle.pipeline_app.specs.declared.form.Form.TheVariants.{Text, Json, Picture}

-- ---- what is made of a run, of the device's configuration, the commands' answers and the report of the stop

abbrev pub Making : Type 0
Making = Plan → List Answer → Report (Vec Step Global) → List ℕ

-- the text of the answers, the log and the report
abbrev pub run_form : Making
run_form p answers report = text_of p.queues p.limit answers report

-- the same as JSON, one object a line
abbrev pub json_form : Making
json_form p answers report = json_text p.queues p.limit answers report

-- the picture of the log, with a row for each queue and each lane
abbrev pub picture_form : Making
picture_form p answers report = picture p.queues (lanes_of p) report.log.items

abbrev pub form_of : Form → Making
form_of Text = run_form
form_of Json = json_form
form_of Picture = picture_form

-- ---- runs

-- What is made of a run of the commands on a device just made: one answer a command, by the calls of its ports, its scheduler and its
-- control, and then the log and the report of its stop, with all of it at home.
pub record IsRun (form : Making) (p : Plan) (commands : List Line) (text : List ℕ) : Type 0 where
  pub start : Parts
  pub end : Parts
  pub answers : List Answer
  pub report : Report (Vec Step Global)
  pub fresh : IsFresh p start
  pub played : ArePlayed start commands answers end
  pub stopped : Stops steps_in end report
  pub written : text ≡ form p answers report

-- A run's text, of the document where the reader tells its bytes.
pub record HasRun (form : Making) (known : Option (List ℕ)) (text : List ℕ) : Type 0 where
  pub said : Planned
  pub run : IsRun form said.plan said.commands text
  pub document : IfSome known (λ input. document_of input ≡ Ok said)

-- a run's text was written after what was there
abbrev pub WritesRun : Making → Option (List ℕ) → Option (List ℕ) → Option (List ℕ) → Type 0
WritesRun form known old new = (text : List ℕ) × HasRun form known text × Appends old new text

-- a first part of it was
abbrev pub WritesPart : Making → Option (List ℕ) → Option (List ℕ) → Option (List ℕ) → Type 0
WritesPart form known old new = (text : List ℕ) × HasRun form known text × AppendsPrefix old new text

-- after a write's fault a first part of a run's text was written, after another nothing
abbrev pub AfterFault : Making → Option (List ℕ) → Option (List ℕ) → Option (List ℕ) → AppFault → Type 0
AfterFault form known old new app.Write = WritesPart form known old new
AfterFault form known old new app.Read = Keeps old new
AfterFault form known old new (app.Document f) = Keeps old new
AfterFault form known old new app.Memory = Keeps old new
AfterFault form known old new app.NoSeat = Keeps old new
AfterFault form known old new (app.Strayed log) = Keeps old new

-- which faults come before the first byte is written: a document's where it is its first, and never a stray
abbrev pub IsEarlyFault : Option (List ℕ) → AppFault → Type 0
IsEarlyFault known app.Write = ⊥
IsEarlyFault known app.Read = Unit {0}
IsEarlyFault known (app.Document f) = IsNamedDoc f × IfSome known (λ input. document_of input ≡ Err f)
IsEarlyFault known app.Memory = Unit {0}
IsEarlyFault known app.NoSeat = Unit {0}
IsEarlyFault known (app.Strayed log) = ⊥

-- which faults a play ends with: a document's where it is its first, and never a stray
abbrev pub IsFaultOf : Option (List ℕ) → AppFault → Type 0
IsFaultOf known app.Write = Unit {0}
IsFaultOf known app.Read = Unit {0}
IsFaultOf known (app.Document f) = IsNamedDoc f × IfSome known (λ input. document_of input ≡ Err f)
IsFaultOf known app.Memory = Unit {0}
IsFaultOf known app.NoSeat = Unit {0}
IsFaultOf known (app.Strayed log) = ⊥
