-- What a transcript shows of a pipeline whose stages are queues: that each answer is its stage's action of the event that it answers,
-- that the stages add no events, that the whole trace went through, and what each stage accepted.
use Rattle.std.specs.Prelude.{ℕ, ◌≡◌, ◌+◌, ◌<◌, Bool, true, ◌&&◌, ◌||◌, ◌==◌, nat_lt, List, length, map, filter, filter_map, slice_index_or, Option, Some, None, if◌then◌else◌}
use Rattle.std.proofs.Common.{lit<}
use Rattle.evt_types.specs.Event.{forwarded_event}
use Rattle.evt_types.specs.Plan.{Plan, lanes_of, queue_of, level_of, is_atomic, is_ordered}
use Rattle.evt_types.specs.declared.event.Event.{Event}
use Rattle.evt_types.specs.declared.event.Op.TheVariants as ops
use Rattle.evt_types.specs.declared.step.Outcome.{Outcome}
use Rattle.evt_types.specs.declared.step.Outcome.TheVariants.{Forwarded, Released}
use Rattle.evt_types.specs.declared.step.Source.TheVariants.{New, Of}
use Rattle.evt_types.specs.declared.step.Step.{Step}
use Rattle.evt_types.specs.declared.step.Step.TheVariants.{Accept, Give, Done, More, Turned, Bounced, Shut}
use Rattle.pipeline_laws.specs.Pipeline.{acted}
use Rattle.pipeline_laws.specs.declared.stage.Action.{Action}
use Rattle.pipeline_laws.specs.declared.stage.Action.TheVariants.{Pass}
use Rattle.pipeline_laws.specs.declared.stage.Entry.{Entry}
use Rattle.transcripts.specs.Lawful.{IsPrefix, Lawful}
use Rattle.transcripts.specs.Laws.{AddsNone}
use Rattle.transcripts.specs.Replies.{new_count}
use Rattle.transcripts.specs.Transcript.{accepted, answers, event_at, inside, out}

-- ---- the answer that is due to an event

-- the event with this payload goes to the next queue; where there is none it is dropped
abbrev pub sent_on : ℕ → Event → Option ℕ → Outcome
sent_on q e None = Released
sent_on q e (Some n) = Forwarded (forwarded_event e (q + 1) n)

abbrev pub action_of : List Action → ℕ → Action
action_of actions q = slice_index_or actions q Pass

-- the answer to an event of queue q: its stage's action, and on to the next queue; the last stage releases
abbrev pub answer_at : List Action → ℕ → Event → Outcome
answer_at actions q e = if nat_lt (q + 1) (length actions) then sent_on q e (acted (action_of actions q) e.payload) else Released

abbrev pub answer_to : List Action → ℕ → Option Event → Outcome
answer_to actions q None = Released
answer_to actions q (Some e) = answer_at actions q e

-- the answer that is due to the event of a queue and number
abbrev pub due : List Action → List Step → ℕ × ℕ → Outcome
due actions T x = answer_to actions x.0 (event_at T x.0 x.1)

-- what each lane answered are the answers that are due to the first events that it was given
abbrev pub AnswersAreDue : List Action → List Step → Type 0
AnswersAreDue actions T = (l : ℕ) → IsPrefix (answers T l) (map (due actions T) (out T l))

-- ---- what came in

-- the NEW by which an event of the trace is brought to the first queue
abbrev pub new_event : Entry → Event
new_event t =
    record {
      flow = t.flow;
      sub_type = 0;
      event_type = 0;
      op = ops.New;
      queue = 0;
      priority = t.priority;
      impl_opaque = 0;
      payload = t.payload;
      flow_fits = t.flow_fits;
      event_type_fits = lit< tt;
    }

abbrev pub new_in : Step → Option Event
new_in (Accept q e (New l)) = Some e
new_in s = None

-- the events that were accepted as new, in order
unfoldable pub newcomers : List Step → List Event
newcomers T = filter_map new_in T

-- a pipeline has worked: the answers are due, no event was added beside another, and what came in is the front of the trace
pub record IsWorked (actions : List Action) (trace : List Entry) (T : List Step) : Type 0 where
  pub answers : AnswersAreDue actions T
  pub adds_none : AddsNone T
  pub newcomers : IsPrefix (newcomers T) (map new_event trace)

-- ---- the log of a device

-- a lawful transcript of a device with so many queues and lanes
pub record IsLogOf (queues lanes : ℕ) (T : List Step) : Type 0 where
  pub plan : Plan
  pub queues_are : length plan.queues ≡ queues
  pub lanes_are : lanes_of plan ≡ lanes
  pub lawful : Lawful plan T

-- ---- the pipeline, and its end

-- a queue for each stage; all but the last keep an order
pub record IsStaged (p : Plan) (actions : List Action) : Type 0 where
  pub queues : length p.queues ≡ length actions
  pub kinds : (k : ℕ) → k + 1 < length actions → (is_ordered (queue_of p k).kind || is_atomic (queue_of p k).kind) ≡ true

-- all of the trace is accepted, and nothing is inside
pub record IsFinished (p : Plan) (trace : List Entry) (T : List Step) : Type 0 where
  pub all : new_count T ≡ length trace
  pub none_inside : inside p T ≡ 0

-- ---- what a stage accepted

abbrev pub is_of : ℕ → ℕ → Event → Bool
is_of f c e = (e.flow == f) && (level_of e == c)

-- the payloads of flow f and level c that stage k accepted, in order
abbrev pub logged : List Step → ℕ → ℕ → ℕ → List ℕ
logged T k f c = map (λ (e : Event). e.payload) (filter (is_of f c) (accepted T k))
