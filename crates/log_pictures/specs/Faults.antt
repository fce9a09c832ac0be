-- Why a log isn't drawn.
use Rattle.std.specs.Prelude.{ℕ, ◌≡◌, ◌+◌, ◌⊎◌, List, ◌∷◌, ◌++◌, All, Ok, Err, length}
use Rattle.evt_types.specs.Plan.{Plan, lanes_of}
use Rattle.evt_types.specs.declared.step.Step.{Step}
use Rattle.log_reading.specs.Logs.{IsLogAt, IsCause}
use Rattle.log_reading.specs.declared.fault.LogFault.{LogFault}
use Rattle.log_reading.specs.declared.fault.LogFault.TheVariants as logs
use Rattle.play_documents.specs.Document.{Planned, IsNamedDoc, document_of}
use Rattle.play_documents.specs.declared.fault.ReadFault.{ReadFault}
use Rattle.play_documents.specs.declared.fault.ReadFault.TheVariants as reads
use Rattle.timelines.specs.Links.{IsPlaced}
use Rattle.log_pictures.specs.declared.fault.PictureFault.{PictureFault}
use Rattle.log_pictures.specs.declared.fault.PictureFault.TheVariants as drawing

-- the faults of the readings as those of the drawing
abbrev pub document_fault : ReadFault → PictureFault
document_fault (reads.Document f) = drawing.Document f
document_fault reads.Memory = drawing.Memory

abbrev pub log_fault : LogFault → PictureFault
log_fault logs.None = drawing.NoLog
log_fault (logs.Line line) = drawing.BadLine line
log_fault logs.Memory = drawing.Memory

-- the text isn't that of a log
pub record IsNoLog (p : Plan) (text : List ℕ) (fault : PictureFault) : Type 0 where
  pub cause : LogFault
  pub why : IsCause p.queues text cause
  pub named : fault ≡ log_fault cause

-- the step at this place names a queue or a lane that isn't there, and none before it does
pub record IsFirstUnplaced (qs ls : ℕ) (T : List Step) (at : ℕ) : Type 0 where
  pub past : List Step
  pub step : Step
  pub rest : List Step
  pub whole : T ≡ past ++ step ∷ rest
  pub place : at ≡ length past
  pub placed : All (IsPlaced qs ls) past
  pub unplaced : ¬ IsPlaced qs ls step

-- it is the text of a log, whose line `log` has the number `begin`: the step at k is in the line begin + k + 1
pub record IsUnplaced (p : Plan) (text : List ℕ) (fault : PictureFault) : Type 0 where
  pub steps : List Step
  pub begin : ℕ
  pub log : IsLogAt p.queues text steps begin
  pub at : ℕ
  pub first : IsFirstUnplaced (length p.queues) (lanes_of p) steps at
  pub named : fault ≡ drawing.NoLane (begin + at + 1)

abbrev pub IsTextFault : Plan → List ℕ → PictureFault → Type 0
IsTextFault p text fault = IsNoLog p text fault ⊎ IsUnplaced p text fault

-- the document has no fault, and the text has this one
pub record IsFaultBehind (document text : List ℕ) (fault : PictureFault) : Type 0 where
  pub said : Planned
  pub configured : document_of document ≡ Ok said
  pub why : IsTextFault said.plan text fault

-- the document's first fault; or it has none, and the text has one
abbrev pub IsPictureFault : List ℕ → List ℕ → PictureFault → Type 0
IsPictureFault document text (drawing.Document f) = IsNamedDoc f × (document_of document ≡ Err f)
IsPictureFault document text drawing.NoLog = IsFaultBehind document text drawing.NoLog
IsPictureFault document text (drawing.BadLine line) = IsFaultBehind document text (drawing.BadLine line)
IsPictureFault document text (drawing.NoLane line) = IsFaultBehind document text (drawing.NoLane line)
IsPictureFault document text drawing.Memory = Unit {0}
