-- What becomes of a reply.
use Rattle.std.specs.Prelude.{ℕ, Bool, false, List, Option, Some, None, if◌then◌else◌}
use Rattle.std.specs.List.{list_any}
use Rattle.transcripts.specs.Standing.{View, steps_of, oldest_at}
use Rattle.transcripts.specs.Transcript.{Held, is_pair}
use Rattle.evt_types.specs.declared.event.Event.{Event}
use Rattle.evt_types.specs.declared.event.Op.{Op}
use Rattle.evt_types.specs.declared.event.Op.TheVariants as ops
use Rattle.evt_types.specs.declared.step.Source.TheVariants.{Of}
use Rattle.evt_types.specs.declared.step.Step.{Step}
use Rattle.evt_types.specs.declared.step.Step.TheVariants.{Accept}
use Rattle.sched_core.specs.declared.take.Took.{Took}
use Rattle.sched_core.specs.declared.take.Took.TheVariants as tooks

-- an event is accepted from this number
abbrev pub is_accept_of : ℕ → ℕ → Step → Bool
is_accept_of q n (Accept r e (Of s m)) = is_pair q n (s, m)
is_accept_of q n s = false

-- whether what the lane's oldest event was passed on as is accepted by the steps
abbrev pub is_passed_on : Option Held → List Step → Bool
is_passed_on None steps = false
is_passed_on (Some h) steps = list_any (is_accept_of h.queue h.number) steps

abbrev pub took_by : Op → View → ℕ → Event → Took
took_by ops.New v l e = if v.shut then tooks.Turned else tooks.Accepted
took_by ops.Forward v l e = if is_passed_on (oldest_at v l) (steps_of v l e) then tooks.Accepted else tooks.Kept
took_by ops.Release v l e = tooks.Released
took_by ops.ForwardMore v l e = if is_passed_on (oldest_at v l) (steps_of v l e) then tooks.Accepted else tooks.Kept

-- what becomes of the lane's reply with this event
abbrev pub took_of : View → ℕ → Event → Took
took_of v l e = took_by e.op v l e
