-- What is told of a text.
use Rattle.std.specs.Prelude.{ℕ, ◌≡◌, Bool, true, false, List, [], ◌∷◌, ◌==◌, All, Option, Ok, string_bytes}
use Rattle.evt_types.specs.Plan.{Plan}
use Rattle.evt_types.specs.declared.step.Step.{Step}
use Rattle.history_judge.specs.Breaches.{IsAnswer}
use Rattle.history_judge.specs.declared.breach.Breach.{Breach}
use Rattle.history_judge.specs.declared.seen.Seen.{Seen}
use Rattle.history_reading.specs.Texts.{IsEntry, history_text}
use Rattle.log_reading.specs.Logs.{IsLogAt}
use Rattle.play_documents.specs.Document.{Planned, document_of}
use Rattle.transcript_judge.specs.Verdicts.{IsVerdict}
use Rattle.transcript_judge.specs.declared.verdict.Verdict.{Verdict}
use Rattle.judge_app.specs.Breaches.{found_text}
use Rattle.judge_app.specs.Verdicts.{verdict_text}
use Rattle.judge_app.specs.declared.judged.Finding.{Finding}
use Rattle.judge_app.specs.declared.judged.Finding.TheVariants.{Log, History}
use Rattle.judge_app.specs.declared.judged.Judged.{Judged}

-- whether the text is judged as a history: it begins with a brace
abbrev pub is_history : List ℕ → Bool
is_history [] = false
is_history (b ∷ text) = b == 123

-- this is found in a history
abbrev pub is_of_history : Finding → Bool
is_of_history (Log v) = false
is_of_history (History found) = true

-- the verdict is that of the steps whose log stands in the text, and it is told
pub record IsLogTold (p : Plan) (text : List ℕ) (v : Verdict) (said : List ℕ) : Type 0 where
  pub steps : List Step
  pub line : ℕ
  pub log : IsLogAt p.queues text steps line
  pub verdict : IsVerdict p steps v
  pub words : said ≡ verdict_text p steps line v

-- what is found is the answer to the history whose text it is, and it is told
pub record IsHistoryTold (p : Plan) (text : List ℕ) (found : Option Breach) (said : List ℕ) : Type 0 where
  pub history : List Seen
  pub whole : text ≡ history_text history
  pub there : All IsEntry history
  pub answer : IsAnswer p history found
  pub words : said ≡ found_text p history found

abbrev pub IsTold : Plan → List ℕ → Finding → List ℕ → Type 0
IsTold p text (Log v) said = IsLogTold p text v said
IsTold p text (History found) said = IsHistoryTold p text found said

-- what is found of a text of its kind, by the configuration, and it is told
pub record IsFound (p : Plan) (text : List ℕ) (j : Judged) : Type 0 where
  pub kind : is_of_history j.finding ≡ is_history text
  pub told : IsTold p text j.finding (string_bytes j.text)

-- the same by the document's configuration
pub record IsJudged (document text : List ℕ) (j : Judged) : Type 0 where
  pub said : Planned
  pub configured : document_of document ≡ Ok said
  pub found : IsFound said.plan text j
