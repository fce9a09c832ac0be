-- How long the text of a run is.
use Rattle.std.specs.Prelude.{ℕ, ◌≡◌, Ok, List, length}
use Rattle.pipeline_laws.specs.RunText.{plain_text}
use Rattle.pipeline_laws.specs.declared.stage.Entry.{Entry}
use Rattle.device_bench.specs.Trace.{IsTrace}
use Rattle.run_documents.specs.Pipelines.{Planned, pipeline_of}

-- as long as that of the plain pipeline of the document for so many workers, on the trace of so many events
pub record HasLength (document : List ℕ) (workers events : ℕ) (bytes : ℕ) : Type 0 where
  pub said : Planned
  pub trace : List Entry
  pub reads : pipeline_of workers document ≡ Ok said
  pub counts : IsTrace events trace
  pub plain : bytes ≡ length (plain_text said.actions trace)
