-- Each fault of a pipeline's document has a name: a refused configuration's is never want of memory.
use Rattle.std.proofs.Common.{◌≡◌, ℕ, Bool, true, false, cond, List, [], Option, Some, None, Result, Ok, Err, subst}
use Rattle.std.specs.Prelude.{IfSome, IfErr}
use Rattle.evt_types.specs.Plan.{Plan}
use Rattle.play_documents.proofs.Named.{bind_named, checked_named, err_doc, first-or, lines-named, rows_fault-named, rows_named, table_of-named}
use Rattle.play_documents.specs.Document.{Gives, IsNamed, IsNamedDoc, checked, table_of}
use Rattle.play_documents.specs.Field.{rows, value_or}
use Rattle.play_documents.specs.Judge.{rows_fault}
use Rattle.play_documents.specs.declared.fault.DocFault.{DocFault}
use Rattle.play_documents.specs.declared.fault.DocFault.TheVariants as doc
use Rattle.play_documents.specs.declared.fault.ReadFault.{ReadFault}
use Rattle.play_documents.specs.declared.fault.ReadFault.TheVariants as reads
use Rattle.run_documents.specs.Drafts.{plan_asked}
use Rattle.run_documents.specs.Judge.{first_fault, has_bad, has_last_action, has_missing, has_parallel_inside, has_unknown, or_fault, stages_fault}
use Rattle.run_documents.specs.Pipelines.{is_tight, judged, loose, pipeline_of, planned_of, trace_in}
use Rattle.run_documents.specs.Survey.{SurveySeen, survey_of}
use Rattle.run_documents.specs.Trace.{line_entry}
use Rattle.run_documents.specs.declared.pipeline.Pipeline.{Pipeline}
use Rattle.run_documents.specs.declared.survey.StageRow.{StageRow}

or_named : (o p : Option DocFault) → IfSome o IsNamedDoc → IfSome p IsNamedDoc → IfSome (or_fault o p) IsNamedDoc
or_named None p first next = next
or_named (Some f) p first next = first

stages_named : (stages : List StageRow) → IfSome (stages_fault stages) IsNamedDoc
stages_named stages =
    first-or IsNamedDoc (has_parallel_inside stages) doc.ParallelInside _ tt (first-or IsNamedDoc (has_last_action stages) doc.LastAction _ tt tt)

first_named : (s : SurveySeen) → IfSome (first_fault s) IsNamedDoc
unfolding first_fault
first_named s =
    or_named (rows_fault (has_unknown s) (has_missing s) (has_bad s)) (stages_fault (rows s.stages))
    (rows_fault-named (has_unknown s) (has_missing s) (has_bad s)) (stages_named (rows s.stages))

tight_named : (b : Bool) (p : Plan) (f : DocFault) → cond b (Err doc.LimitTight) (Ok p) ≡ Err f → IsNamedDoc f
tight_named true p f e = subst IsNamedDoc (err_doc doc.LimitTight f e) tt
tight_named false p f e = absurd cc

loose_named : (workers : ℕ) (p : Plan) (f : DocFault) → loose workers p ≡ Err f → IsNamedDoc f
unfolding loose
loose_named workers p f e = tight_named (is_tight workers p) p f e

trace_named : (s : SurveySeen) (f : DocFault) → trace_in s ≡ Err f → IsNamedDoc f
unfolding trace_in
trace_named s f e = lines-named line_entry (λ n. doc.BadTrace n) (λ n. tt) (value_or [] s.trace) f e

-- ---- the document

judged_named : (workers : ℕ) (s : SurveySeen) (f : DocFault) → judged workers s ≡ Err f → IsNamedDoc f
unfolding judged
judged_named workers s f e =
    rows_named (first_fault s) _ f (first_named s)
    (bind_named (checked (plan_asked workers s)) _ f (checked_named (plan_asked workers s) f)
    (λ p. bind_named (loose workers p) _ f (loose_named workers p f) (λ q. bind_named (trace_in s) _ f (trace_named s f) (λ t k. absurd cc))))
    e

pipeline_named : (workers : ℕ) (bytes : List ℕ) (f : DocFault) → pipeline_of workers bytes ≡ Err f → IsNamedDoc f
unfolding pipeline_of
pipeline_named workers bytes f e = bind_named (table_of bytes) _ f (table_of-named bytes f) (λ t. judged_named workers (survey_of t) f) e

-- what was answered has a name
pub gives-named : (workers : ℕ) (bytes : List ℕ) (r : Result Pipeline ReadFault) → Gives planned_of r (pipeline_of workers bytes) → IfErr r IsNamed
gives-named workers bytes (Ok p) e = tt
gives-named workers bytes (Err (reads.Document f)) e = pipeline_named workers bytes f e
gives-named workers bytes (Err reads.Memory) e = tt
