-- What a lane says to the scheduler, as replies and as the steps that take them.
use Rattle.std.specs.Prelude.{ℕ, List, ◌==◌, count_by, filter_map, Option, Some, None, if◌then◌else◌}
use Rattle.transcripts.specs.Transcript.{is_new, is_turned, is_release, is_more}
use Rattle.evt_types.specs.declared.event.Event.{Event}
use Rattle.evt_types.specs.declared.event.Op.{Op}
use Rattle.evt_types.specs.declared.event.Op.TheVariants as ops
use Rattle.evt_types.specs.declared.event.Reply.{Reply}
use Rattle.evt_types.specs.declared.step.Outcome.TheVariants.{Forwarded, Released}
use Rattle.evt_types.specs.declared.step.Source.TheVariants.{New, Of}
use Rattle.evt_types.specs.declared.step.Step.{Step}
use Rattle.evt_types.specs.declared.step.Step.TheVariants.{Accept, Give, Done, More, Turned, Bounced, Shut}

-- an operation, and the event that comes with it: the other fields of a RELEASE mean nothing
pub record Said : Type 0 where
  pub op : Op
  pub event : Option Event

abbrev pub said_by : Op → Event → Said
said_by ops.New e = record { op = ops.New; event = Some e }
said_by ops.Forward e = record { op = ops.Forward; event = Some e }
said_by ops.Release e = record { op = ops.Release; event = None }
said_by ops.ForwardMore e = record { op = ops.ForwardMore; event = Some e }

abbrev pub said : Reply → Said
said r = said_by r.event.op r.event

-- what the lane said where this step was taken. The Accept of what was passed on was said by its Done or More.
abbrev pub said_in : ℕ → Step → Option Said
said_in l (Accept q e (New m)) = if m == l then Some (record { op = ops.New; event = Some e }) else None
said_in l (Done m (Forwarded e)) = if m == l then Some (record { op = ops.Forward; event = Some e }) else None
said_in l (Done m Released) = if m == l then Some (record { op = ops.Release; event = None }) else None
said_in l (More m e) = if m == l then Some (record { op = ops.ForwardMore; event = Some e }) else None
said_in l (Turned m e) = if m == l then Some (record { op = ops.New; event = Some e }) else None
said_in l s = None

-- the replies of the lane that the transcript took
unfoldable pub replies_in : List Step → ℕ → List Said
replies_in T l = filter_map (said_in l) T

-- how many events were accepted as new, how many were turned away, how many were released, how many were added
abbrev pub new_count : List Step → ℕ
new_count T = count_by is_new T

abbrev pub turned_count : List Step → ℕ
turned_count T = count_by is_turned T

abbrev pub release_count : List Step → ℕ
release_count T = count_by is_release T

abbrev pub more_count : List Step → ℕ
more_count T = count_by is_more T
