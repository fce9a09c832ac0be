-- What the report of a stopped device lists: of the core by queue, of the lanes by lane.
use Rattle.std.specs.Prelude.{ℕ, List, map, filter_map, flat_map, Option, Some, None}
use Rattle.event_answers.specs.declared.report.Turned.{Turned}
use Rattle.event_answers.specs.declared.report.Undelivered.{Undelivered}
use Rattle.event_answers.specs.declared.report.Untaken.{Untaken}
use Rattle.evt_types.specs.Plan.{Plan, lanes, queues}
use Rattle.evt_types.specs.declared.event.Delivery.{Delivery}
use Rattle.evt_types.specs.declared.event.Event.{Event}
use Rattle.evt_types.specs.declared.event.KeptEvent.{KeptEvent}
use Rattle.evt_types.specs.declared.event.Op.{Op}
use Rattle.evt_types.specs.declared.event.Op.TheVariants as ops
use Rattle.evt_types.specs.declared.event.Reply.{Reply}
use Rattle.evt_types.specs.declared.step.Step.{Step}
use Rattle.evt_types.specs.declared.step.Step.TheVariants as steps
use Rattle.transcripts.specs.Transcript.{kept_events, waiting}
use Rattle.parked_queue.specs.Lists.{delivery_of}
use Rattle.world_laws.specs.Rest.{Rest}

-- a delivery that the lane's holder didn't receive
abbrev pub undelivered_of : ℕ → Delivery → Undelivered
undelivered_of l d = record { lane = l; queue = d.queue; number = d.number; event = d.event }

-- a reply that wasn't taken, by its operation: a RELEASE has no event and isn't listed
abbrev pub untaken_by : Op → ℕ → Event → Option Untaken
untaken_by ops.New l e = Some (record { lane = l; event = e })
untaken_by ops.Forward l e = Some (record { lane = l; event = e })
untaken_by ops.Release l e = None
untaken_by ops.ForwardMore l e = Some (record { lane = l; event = e })

-- a NEW, FORWARD or FORWARD_MORE that wasn't taken
abbrev pub untaken_of : ℕ → Reply → Option Untaken
untaken_of l r = untaken_by r.event.op l r.event

-- the waiting events as deliveries, by queue, then number
abbrev pub waiting_all : Plan → List Step → List Delivery
waiting_all p T = flat_map (λ q. map (delivery_of q) (waiting T q)) (queues p)

-- the kept events, by queue, then in hand-out order
abbrev pub kept_all : Plan → List Step → List KeptEvent
kept_all p T = flat_map (λ q. kept_events T q) (queues p)

-- what no holder received, by lane, oldest first
abbrev pub undelivered_all : Plan → (ℕ → Rest) → List Undelivered
undelivered_all p rest = flat_map (λ l. map (undelivered_of l) (rest l).undelivered) (lanes p)

-- the events of replies that weren't taken, by lane, oldest first
abbrev pub untaken_all : Plan → (ℕ → Rest) → List Untaken
untaken_all p rest = flat_map (λ l. filter_map (untaken_of l) (rest l).untaken) (lanes p)

-- a NEW that a step turned away
abbrev pub turned_by : Step → Option Turned
turned_by (steps.Turned l e) = Some (record { lane = l; event = e })
turned_by (steps.Accept q e s) = None
turned_by (steps.Give l q n) = None
turned_by (steps.Done l o) = None
turned_by (steps.More l e) = None
turned_by (steps.Bounced l) = None
turned_by steps.Shut = None

-- the NEWs that were turned away, each with its lane, in the order in which they were taken
abbrev pub turned_all : List Step → List Turned
turned_all T = filter_map turned_by T
