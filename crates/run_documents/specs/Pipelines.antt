-- What a pipeline's document says: its device, its stages' actions and its trace, or its first fault.
use Rattle.std.specs.Prelude.{◌≡◌, ℕ, ◌+◌, ◌*◌, ◌<◌, Bool, false, List, [], length, nat_lt, All, Result, Ok, Err, if◌then◌else◌}
use Rattle.evt_types.specs.Plan.{Plan, PortPlan, port_of, queues}
use Rattle.pipeline_laws.specs.declared.stage.Action.{Action}
use Rattle.pipeline_laws.specs.declared.stage.Entry.{Entry}
use Rattle.play_documents.specs.Document.{◌>>=◌, checked, table_of, unless_fault}
use Rattle.play_documents.specs.Field.{value_or}
use Rattle.play_documents.specs.declared.fault.DocFault.{DocFault}
use Rattle.play_documents.specs.declared.fault.DocFault.TheVariants.{LimitTight}
use Rattle.run_documents.specs.Drafts.{actions_asked, plan_asked}
use Rattle.run_documents.specs.Judge.{first_fault}
use Rattle.run_documents.specs.Survey.{SurveySeen, survey_of}
use Rattle.run_documents.specs.Trace.{trace_of}
use Rattle.run_documents.specs.declared.pipeline.Pipeline.{Pipeline}

-- what a pipeline's document says
pub record Planned : Type 0 where
  pub plan : Plan
  pub actions : List Action
  pub trace : List Entry

abbrev pub planned_of : Pipeline → Planned
planned_of p = record { plan = p.shape; actions = p.actions.items; trace = p.trace.items }

-- the limit has no room for what may rest in the ports' pockets, twice the quantum in each
unfoldable pub is_tight : ℕ → Plan → Bool
is_tight workers p = nat_lt p.limit (2 * p.quantum * (workers + 1))

unfoldable pub loose : ℕ → Plan → Result Plan DocFault
loose workers p = if is_tight workers p then Err LimitTight else Ok p

-- the trace of the rows
unfoldable pub trace_in : SurveySeen → Result (List Entry) DocFault
trace_in s = trace_of (value_or [] s.trace)

-- what the rows say, for so many workers: each fault is looked for in the whole document before the next
unfoldable pub judged : ℕ → SurveySeen → Result Planned DocFault
judged workers s =
    unless_fault (first_fault s) (do
      plan ← checked (plan_asked workers s)
      plan ← loose workers plan
      trace ← trace_in s
      Ok (record { plan = plan; actions = actions_asked s; trace = trace }))

-- what the bytes say, for so many workers: the pipeline, or the first fault
unfoldable pub pipeline_of : ℕ → List ℕ → Result Planned DocFault
pipeline_of workers bytes = do
  table ← table_of bytes
  judged workers (survey_of table)

-- a port for the trace, linked to nothing, and one for each worker, linked to every queue
pub record HasWorkers (workers : ℕ) (p : Plan) : Type 0 where
  pub ports : length p.ports ≡ workers + 1
  pub producer : (port_of p 0).links ≡ []
  pub linked : (l : ℕ) → 0 < l → l < length p.ports → (port_of p l).links ≡ queues p
  pub thresholds : All (λ (port : PortPlan). port.threshold ≡ p.limit) p.ports
  pub none_implicit : All (λ (port : PortPlan). port.implicit ≡ false) p.ports
