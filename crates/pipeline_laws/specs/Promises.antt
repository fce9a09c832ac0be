-- What the threads of a pipeline promise of their ports: port 0 submits the trace, each other port answers what it receives.
use Rattle.std.specs.Prelude.{ℕ, ◌≡◌, ◌<◌, false, List, map, All, Some, None}
use Rattle.evt_types.specs.Event.{pair_of}
use Rattle.evt_types.specs.Operation.{is_new_reply}
use Rattle.evt_types.specs.Plan.{Plan, lanes_of}
use Rattle.evt_types.specs.declared.event.Delivery.{Delivery}
use Rattle.evt_types.specs.declared.event.Op.TheVariants as ops
use Rattle.evt_types.specs.declared.event.Reply.{Reply}
use Rattle.evt_types.specs.declared.step.Outcome.{Outcome}
use Rattle.evt_types.specs.declared.step.Outcome.TheVariants.{Forwarded, Released}
use Rattle.evt_types.specs.declared.step.Step.{Step}
use Rattle.pipeline_laws.specs.Worked.{answer_at, new_event}
use Rattle.pipeline_laws.specs.declared.stage.Action.{Action}
use Rattle.pipeline_laws.specs.declared.stage.Entry.{Entry}
use Rattle.transcripts.specs.Lawful.{IsPrefix}
use Rattle.transcripts.specs.Replies.{Said, replies_in, said, said_by}
use Rattle.transcripts.specs.Transcript.{event_at, out}

-- over its own lane: the replies that a port submitted, and the deliveries that it received
pub record PortLists : Type 0 where
  pub submitted : List Reply
  pub received : List Delivery

-- what an answer says
abbrev pub said_outcome : Outcome → Said
said_outcome (Forwarded e) = record { op = ops.Forward; event = Some e }
said_outcome Released = record { op = ops.Release; event = None }

-- what is to be said to a delivery, and to bring in an event of the trace
abbrev pub said_to : List Action → Delivery → Said
said_to actions d = said_outcome (answer_at actions d.queue d.event)

abbrev pub said_new : Entry → Said
said_new t = said_by ops.New (new_event t)

-- it said the front of the trace, in order, and nothing else
abbrev pub IsProducer : List Entry → PortLists → Type 0
IsProducer trace a = IsPrefix (map said a.submitted) (map said_new trace)

-- it said the answers to the first events that it received, in order, and nothing else
abbrev pub IsWorker : List Action → PortLists → Type 0
IsWorker actions a = IsPrefix (map said a.submitted) (map (said_to actions) a.received)

-- port 0 is the producer, each other lane's port a worker
pub record KeepPromises (p : Plan) (actions : List Action) (trace : List Entry) (ports : ℕ → PortLists) : Type 0 where
  pub producer : IsProducer trace (ports 0)
  pub workers : (l : ℕ) → 0 < l → l < lanes_of p → IsWorker actions (ports l)

-- no other lane's holder said a NEW
abbrev pub OthersSayNoNew : Plan → (ℕ → PortLists) → Type 0
OthersSayNoNew p ports = (l : ℕ) → 0 < l → l < lanes_of p → All (λ (r : Reply). is_new_reply r ≡ false) (ports l).submitted

-- the lists of a lane that the transcript knows: what it took was submitted, what was received it gave, each event being the accepted
-- one of its number
pub record IsLane (T : List Step) (l : ℕ) (a : PortLists) : Type 0 where
  pub taken : IsPrefix (replies_in T l) (map said a.submitted)
  pub received : IsPrefix (map pair_of a.received) (out T l)
  pub events : All (λ (d : Delivery). event_at T d.queue d.number ≡ Some d.event) a.received
