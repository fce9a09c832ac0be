-- Why a log or a history isn't judged.
use Rattle.std.specs.Prelude.{ℕ, ◌≡◌, ◌+◌, ◌⊎◌, true, false, List, All, Ok, Err}
use Rattle.evt_types.specs.Plan.{Plan}
use Rattle.history_judge.specs.Entries.{IsRefused}
use Rattle.history_judge.specs.declared.fault.HistoryFault.{HistoryFault}
use Rattle.history_judge.specs.declared.fault.HistoryFault.TheVariants as histories
use Rattle.history_judge.specs.declared.seen.Seen.{Seen}
use Rattle.history_reading.specs.Causes.{IsCause as IsNoHistoryOf}
use Rattle.history_reading.specs.Texts.{IsEntry, history_text}
use Rattle.history_reading.specs.declared.fault.ReadFault.{ReadFault as EntryFault}
use Rattle.history_reading.specs.declared.fault.ReadFault.TheVariants as entries
use Rattle.log_reading.specs.Logs.{IsCause as IsNoLogOf}
use Rattle.log_reading.specs.declared.fault.LogFault.{LogFault}
use Rattle.log_reading.specs.declared.fault.LogFault.TheVariants as logs
use Rattle.play_documents.specs.Document.{Planned, IsNamedDoc, document_of}
use Rattle.play_documents.specs.declared.fault.ReadFault.{ReadFault}
use Rattle.play_documents.specs.declared.fault.ReadFault.TheVariants as reads
use Rattle.judge_app.specs.Judged.{is_history}
use Rattle.judge_app.specs.declared.fault.JudgeFault.{JudgeFault}
use Rattle.judge_app.specs.declared.fault.JudgeFault.TheVariants as judging

-- the faults of the readings, and of a history's judging, as those of the judging of a text
abbrev pub document_fault : ReadFault → JudgeFault
document_fault (reads.Document f) = judging.Document f
document_fault reads.Memory = judging.Memory

abbrev pub log_fault : LogFault → JudgeFault
log_fault logs.None = judging.NoLog
log_fault (logs.Line line) = judging.BadLine line
log_fault logs.Memory = judging.Memory

abbrev pub entry_fault : EntryFault → JudgeFault
entry_fault (entries.Line line cause) = judging.BadEntry line cause
entry_fault entries.Memory = judging.Memory

-- the entry at i stands in the line i + 1
abbrev pub history_fault : HistoryFault → JudgeFault
history_fault histories.Flows = judging.FlowLanes
history_fault (histories.Port i) = judging.NoPort (i + 1)
history_fault (histories.Order i) = judging.Overlap (i + 1)
history_fault (histories.Unsorted i) = judging.Unsorted (i + 1)
history_fault histories.Memory = judging.Memory

-- the text has to be that of a log, and isn't
pub record IsNoLog (p : Plan) (text : List ℕ) (fault : JudgeFault) : Type 0 where
  pub kind : is_history text ≡ false
  pub cause : LogFault
  pub why : IsNoLogOf p.queues text cause
  pub named : fault ≡ log_fault cause

-- the text has to be that of a history, and isn't
pub record IsNoHistory (p : Plan) (text : List ℕ) (fault : JudgeFault) : Type 0 where
  pub kind : is_history text ≡ true
  pub cause : EntryFault
  pub why : IsNoHistoryOf text cause
  pub named : fault ≡ entry_fault cause

-- the text is that of a history, which isn't judged
pub record IsUnjudged (p : Plan) (text : List ℕ) (fault : JudgeFault) : Type 0 where
  pub kind : is_history text ≡ true
  pub history : List Seen
  pub whole : text ≡ history_text history
  pub there : All IsEntry history
  pub cause : HistoryFault
  pub why : IsRefused p history cause
  pub named : fault ≡ history_fault cause

abbrev pub IsTextFault : Plan → List ℕ → JudgeFault → Type 0
IsTextFault p text fault = IsNoLog p text fault ⊎ (IsNoHistory p text fault ⊎ IsUnjudged p text fault)

-- the document has no fault, and the text has this one
pub record IsFaultBehind (document text : List ℕ) (fault : JudgeFault) : Type 0 where
  pub said : Planned
  pub configured : document_of document ≡ Ok said
  pub why : IsTextFault said.plan text fault

-- the document's first fault; or it has none, and the text is refused, as a history where it begins as one, and else as a log
abbrev pub IsJudgeFault : List ℕ → List ℕ → JudgeFault → Type 0
IsJudgeFault document text (judging.Document f) = IsNamedDoc f × (document_of document ≡ Err f)
IsJudgeFault document text judging.NoLog = IsFaultBehind document text judging.NoLog
IsJudgeFault document text (judging.BadLine line) = IsFaultBehind document text (judging.BadLine line)
IsJudgeFault document text (judging.BadEntry line cause) = IsFaultBehind document text (judging.BadEntry line cause)
IsJudgeFault document text judging.FlowLanes = IsFaultBehind document text judging.FlowLanes
IsJudgeFault document text (judging.NoPort line) = IsFaultBehind document text (judging.NoPort line)
IsJudgeFault document text (judging.Overlap line) = IsFaultBehind document text (judging.Overlap line)
IsJudgeFault document text (judging.Unsorted line) = IsFaultBehind document text (judging.Unsorted line)
IsJudgeFault document text judging.Memory = Unit {0}
