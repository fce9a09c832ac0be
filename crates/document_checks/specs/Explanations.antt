-- Which fault of a document is explained.
use Rattle.std.specs.Prelude.{ℕ, Bool, true, false, not, ◌&&◌, ◌||◌, List, codes, is_some, Option, Some, None, Result, Ok, Err, if◌then◌else◌}
use Rattle.toml.specs.Data.{Members, get_member}
use Rattle.play_documents.specs.Document.{document_of, table_of}
use Rattle.play_documents.specs.declared.fault.DocFault.{DocFault}
use Rattle.run_documents.specs.Pipelines.{pipeline_of}

-- the fault of a reading that gives none
abbrev pub fault_in : {A : Type 0} → Result A DocFault → Option DocFault
fault_in (Ok x) = None
fault_in (Err f) = Some f

-- the table has the key
abbrev pub has_key : List ℕ → Members → Bool
has_key key ms = is_some (get_member key ms)

-- the table is a pipeline's: it has a stage or a trace, and neither a script, nor a queue, nor a port
abbrev pub names_pipeline : Members → Bool
names_pipeline ms =
    (has_key (codes "stage") ms || has_key (codes "trace") ms)
    && not (has_key (codes "script") ms || has_key (codes "queue") ms || has_key (codes "port") ms)

abbrev pub is_pipeline_table : Result Members DocFault → Bool
is_pipeline_table (Ok ms) = names_pipeline ms
is_pipeline_table (Err f) = false

unfoldable pub is_pipeline : List ℕ → Bool
is_pipeline bytes = is_pipeline_table (table_of bytes)

-- the first fault of a document of either kind, with so many workers where it is a pipeline's
abbrev pub fault_of_either : ℕ → List ℕ → Option DocFault
fault_of_either workers bytes = if is_pipeline bytes then fault_in (pipeline_of workers bytes) else fault_in (document_of bytes)
