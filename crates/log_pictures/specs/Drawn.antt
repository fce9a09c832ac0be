-- What is drawn of a text.
use Rattle.std.specs.Prelude.{ℕ, ◌≡◌, List, All, Ok, length}
use Rattle.evt_types.specs.Plan.{Plan, lanes_of}
use Rattle.evt_types.specs.declared.step.Step.{Step}
use Rattle.log_reading.specs.Logs.{IsLogAt}
use Rattle.play_documents.specs.Document.{Planned, document_of}
use Rattle.timelines.specs.Links.{IsPlaced}
use Rattle.timelines.specs.Picture.{picture}

-- the log of some steps stands in the text, their queues and lanes are there, and this is their picture
pub record IsDrawn (p : Plan) (text drawn : List ℕ) : Type 0 where
  pub steps : List Step
  pub line : ℕ
  pub log : IsLogAt p.queues text steps line
  pub placed : All (IsPlaced (length p.queues) (lanes_of p)) steps
  pub whole : drawn ≡ picture p.queues (lanes_of p) steps

-- the same by the document's configuration
pub record IsPictureOf (document text drawn : List ℕ) : Type 0 where
  pub said : Planned
  pub configured : document_of document ≡ Ok said
  pub picture : IsDrawn said.plan text drawn
