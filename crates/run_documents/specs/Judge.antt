-- The faults that a pipeline's rows show, in their order.
use Rattle.std.specs.Prelude.{◌-◌, Bool, true, false, not, ◌||◌, List, length, take, slice_get, Option, Some, None, if◌then◌else◌}
use Rattle.std.specs.List.{list_any}
use Rattle.evt_types.specs.declared.event.Kind.{Kind}
use Rattle.evt_types.specs.declared.event.Kind.TheVariants.{Ordered, Atomic, Parallel}
use Rattle.pipeline_laws.specs.declared.stage.Action.{Action}
use Rattle.pipeline_laws.specs.declared.stage.Action.TheVariants.{Pass, Add, DropMultiples}
use Rattle.play_documents.specs.Field.{is_absent, is_bad, rows, value_or}
use Rattle.play_documents.specs.Judge.{has_bad_device, has_bad_queue, misses_device, misses_queue, rows_fault}
use Rattle.play_documents.specs.declared.fault.DocFault.{DocFault}
use Rattle.play_documents.specs.declared.fault.DocFault.TheVariants.{ParallelInside, LastAction}
use Rattle.play_documents.specs.declared.field.Field.{Field}
use Rattle.play_documents.specs.declared.field.Field.TheVariants.{Absent, Bad, Good}
use Rattle.run_documents.specs.Survey.{SurveySeen}
use Rattle.run_documents.specs.declared.survey.StageRow.{StageRow}

-- some key isn't a stage's
abbrev pub is_unknown_stage : StageRow → Bool
is_unknown_stage r = not r.queue.known

-- a stage needs what its queue needs
abbrev pub misses_stage : StageRow → Bool
misses_stage r = misses_queue r.queue

-- some value is refused
abbrev pub has_bad_stage : StageRow → Bool
has_bad_stage r = has_bad_queue r.queue || is_bad r.action

-- the three tests of a whole document
unfoldable pub has_unknown : SurveySeen → Bool
has_unknown s = not s.known || list_any is_unknown_stage (rows s.stages)

unfoldable pub has_missing : SurveySeen → Bool
has_missing s =
    misses_device s.device || is_absent s.depth || is_absent s.replies || is_absent s.trace || is_absent s.stages || list_any misses_stage (rows s.stages)

unfoldable pub has_bad : SurveySeen → Bool
has_bad s = has_bad_device s.device || is_bad s.depth || is_bad s.replies || is_bad s.trace || is_bad s.stages || list_any has_bad_stage (rows s.stages)

-- a stage but the last is parallel
abbrev pub is_parallel_kind : Field Kind → Bool
is_parallel_kind (Good Parallel) = true
is_parallel_kind (Good Ordered) = false
is_parallel_kind (Good Atomic) = false
is_parallel_kind Absent = false
is_parallel_kind Bad = false

abbrev pub is_parallel : StageRow → Bool
is_parallel r = is_parallel_kind r.queue.kind

unfoldable pub has_parallel_inside : List StageRow → Bool
has_parallel_inside stages = list_any is_parallel (take (length stages - 1) stages)

-- a stage's action; where none is named it passes
abbrev pub action_asked : StageRow → Action
action_asked r = value_or Pass r.action

-- the last stage, where there is one, doesn't pass
abbrev pub is_pass : Action → Bool
is_pass Pass = true
is_pass (Add k) = false
is_pass (DropMultiples m) = false

abbrev pub acts : Option StageRow → Bool
acts None = false
acts (Some r) = not (is_pass (action_asked r))

unfoldable pub has_last_action : List StageRow → Bool
has_last_action stages = acts (slice_get stages (length stages - 1))

-- the fault of the stages' order
abbrev pub stages_fault : List StageRow → Option DocFault
stages_fault stages = if has_parallel_inside stages then Some ParallelInside else (if has_last_action stages then Some LastAction else None)

-- the first fault: each is looked for in the whole document before the next
abbrev pub or_fault : Option DocFault → Option DocFault → Option DocFault
or_fault None next = next
or_fault (Some f) next = Some f

unfoldable pub first_fault : SurveySeen → Option DocFault
first_fault s = or_fault (rows_fault (has_unknown s) (has_missing s) (has_bad s)) (stages_fault (rows s.stages))
