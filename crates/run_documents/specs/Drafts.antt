-- The configuration and the actions that a pipeline's rows ask for.
use Rattle.std.specs.Prelude.{ℕ, false, List, [], ◌∷◌, length, map, replicate}
use Rattle.std.specs.List.{range_with_len}
use Rattle.evt_types.specs.Plan.{Plan, PortPlan}
use Rattle.evt_types.specs.declared.draft.QueueDraft.{QueueDraft}
use Rattle.pipeline_laws.specs.declared.stage.Action.{Action}
use Rattle.play_documents.specs.Drafts.{device_asked, queue_asked}
use Rattle.play_documents.specs.Field.{rows, value_or}
use Rattle.run_documents.specs.Judge.{action_asked}
use Rattle.run_documents.specs.Survey.{SurveySeen}
use Rattle.run_documents.specs.declared.survey.StageRow.{StageRow}

-- a stage's queue
abbrev pub stage_asked : StageRow → QueueDraft
stage_asked r = queue_asked r.queue

-- a port with these links: its threshold is the limit
abbrev pub port_asked : SurveySeen → List ℕ → PortPlan
port_asked s links = record { threshold = value_or 0 s.device.limit; depth = value_or 0 s.depth; replies = value_or 0 s.replies; implicit = false; links = links }

-- port 0, which is linked to nothing, and the workers' ports, each linked to every stage's queue
abbrev pub producer_asked : SurveySeen → PortPlan
producer_asked s = port_asked s []

abbrev pub worker_asked : SurveySeen → PortPlan
worker_asked s = port_asked s (range_with_len 0 (length (rows s.stages)))

abbrev pub ports_asked : ℕ → SurveySeen → List PortPlan
ports_asked workers s = producer_asked s ∷ replicate workers (worker_asked s)

-- the device, for so many workers
unfoldable pub plan_asked : ℕ → SurveySeen → Plan
plan_asked workers s = device_asked s.device (map stage_asked (rows s.stages)) (ports_asked workers s)

-- the stages' actions
abbrev pub actions_asked : SurveySeen → List Action
actions_asked s = map action_asked (rows s.stages)
