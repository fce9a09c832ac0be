-- Small devices, and what they do: the logs that a device has to write, step by step.
use Rattle.std.specs.Prelude.{ℕ, ◌^◌, ◌<◌, false, List, [], ◌∷◌}
use Rattle.std.proofs.Math.Dec.{lit<}
use Rattle.evt_types.specs.Plan.{Plan, PortPlan}
use Rattle.evt_types.specs.declared.draft.QueueDraft.{QueueDraft}
use Rattle.evt_types.specs.declared.draft.Serving.{Serving}
use Rattle.evt_types.specs.declared.draft.Serving.TheVariants.{Ports, Flows}
use Rattle.evt_types.specs.declared.event.Event.{Event}
use Rattle.evt_types.specs.declared.event.Kind.TheVariants.{Ordered, Atomic, Parallel}
use Rattle.evt_types.specs.declared.event.Op.{Op}
use Rattle.evt_types.specs.declared.event.Op.TheVariants as ops
use Rattle.evt_types.specs.declared.step.Outcome.TheVariants.{Forwarded, Released}
use Rattle.evt_types.specs.declared.step.Source.TheVariants.{New, Of}
use Rattle.evt_types.specs.declared.step.Step.{Step}
use Rattle.evt_types.specs.declared.step.Step.TheVariants.{Accept, Give, Done, More, Turned, Bounced, Shut}

-- ---- the devices

-- a port with room for four events, which dequeues from these queues
abbrev pub port_with : List ℕ → PortPlan
port_with links = record { threshold = 4; depth = 4; replies = 4; implicit = false; links = links }

abbrev pub device_with : Serving → List QueueDraft → List PortPlan → Plan
device_with serving queues ports = record { limit = 4; quantum = 2; sweep = 8; serving = serving; queues = queues; ports = ports }

-- an atomic queue of four slots, an ordered queue of eight places, a parallel queue
abbrev pub atomic_queue : QueueDraft
atomic_queue = record { kind = Atomic; priority = 128; slots = 4; order = 0; single = false }

abbrev pub ordered_queue : QueueDraft
ordered_queue = record { kind = Ordered; priority = 128; slots = 0; order = 8; single = false }

abbrev pub parallel_queue : QueueDraft
parallel_queue = record { kind = Parallel; priority = 128; slots = 0; order = 0; single = false }

-- Port 0 brings events in. An atomic queue for port 1, the same for ports 1 and 2, an ordered queue for both with a parallel
-- one for port 2, an atomic queue before a parallel one, and the same with both for port 1.
abbrev pub one_worker : Plan
one_worker = device_with Ports (atomic_queue ∷ []) (port_with [] ∷ port_with (0 ∷ []) ∷ [])

abbrev pub two_workers : Plan
two_workers = device_with Ports (atomic_queue ∷ []) (port_with [] ∷ port_with (0 ∷ []) ∷ port_with (0 ∷ []) ∷ [])

abbrev pub two_stages : Plan
two_stages = device_with Ports (ordered_queue ∷ parallel_queue ∷ []) (port_with [] ∷ port_with (0 ∷ []) ∷ port_with (0 ∷ 1 ∷ []) ∷ [])

abbrev pub atomic_stages : Plan
atomic_stages = device_with Ports (atomic_queue ∷ parallel_queue ∷ []) (port_with [] ∷ port_with (0 ∷ []) ∷ port_with (0 ∷ 1 ∷ []) ∷ [])

abbrev pub both_stages : Plan
both_stages = device_with Ports (atomic_queue ∷ parallel_queue ∷ []) (port_with [] ∷ port_with (0 ∷ 1 ∷ []) ∷ [])

-- Two workers of an atomic queue, whose four slots have flow lanes: the lanes 3 to 6, beyond those of the ports.
abbrev pub flow_workers : Plan
flow_workers = device_with Flows (atomic_queue ∷ []) (port_with [] ∷ port_with (0 ∷ []) ∷ port_with (0 ∷ []) ∷ [])

-- ---- the events

-- an event by its operation, queue, flow, priority and payload
abbrev pub event_with : Op → ℕ → (flow : ℕ) → flow < 2 ^ 20 → ℕ → ℕ → Event
event_with op queue flow fits priority payload =
    record {
      flow = flow;
      sub_type = 0;
      event_type = 0;
      op = op;
      queue = queue;
      priority = priority;
      impl_opaque = 0;
      payload = payload;
      flow_fits = fits;
      event_type_fits = lit< tt;
    }

-- an event that is brought into queue 0, and one that is forwarded to queue 1
abbrev pub new_event : (flow : ℕ) → flow < 2 ^ 20 → ℕ → ℕ → Event
new_event flow fits priority payload = event_with ops.New 0 flow fits priority payload

abbrev pub forwarded_event : (flow : ℕ) → flow < 2 ^ 20 → ℕ → ℕ → Event
forwarded_event flow fits priority payload = event_with ops.Forward 1 flow fits priority payload

-- one that is added and goes to queue 1
abbrev pub added_event : (flow : ℕ) → flow < 2 ^ 20 → ℕ → ℕ → Event
added_event flow fits priority payload = event_with ops.ForwardMore 1 flow fits priority payload

-- port 0 brings an event into queue 0
abbrev pub entry : Event → Step
entry e = Accept 0 e (New 0)

-- ---- the logs

-- an event is given, released, and nothing is left
abbrev pub first_event : List Step
first_event = entry (new_event 7 (lit< tt) 128 5) ∷ Give 1 0 0 ∷ Done 1 Released ∷ []

-- the events of one flow go to one port
abbrev pub one_flow_two_ports : List Step
one_flow_two_ports =
    entry (new_event 7 (lit< tt) 128 1) ∷ entry (new_event 7 (lit< tt) 128 2) ∷ entry (new_event 7 (lit< tt) 128 3) ∷ Give 1 0 0 ∷ Give 1 0 1 ∷ Give 1 0 2 ∷ []

-- flows 3 and 7 fall into one slot, which stays with its port until both are answered; flow 5 has another
abbrev pub two_flows_one_slot : List Step
two_flows_one_slot =
    entry (new_event 3 (lit< tt) 128 1) ∷ entry (new_event 7 (lit< tt) 128 2) ∷ Give 1 0 0 ∷ Give 1 0 1 ∷ Done 1 Released ∷ Done 1 Released
    ∷ entry (new_event 5 (lit< tt) 128 3) ∷ entry (new_event 7 (lit< tt) 128 4) ∷ Give 1 0 2 ∷ Give 2 0 3 ∷ []

-- the second of two ordered events is forwarded first, and waits for the first
abbrev pub second_forwarded_first : List Step
second_forwarded_first =
    entry (new_event 7 (lit< tt) 128 1) ∷ entry (new_event 8 (lit< tt) 128 2) ∷ Give 1 0 0 ∷ Give 2 0 1 ∷ Done 2 (Forwarded (forwarded_event 8 (lit< tt) 128 20))
    ∷ Done 1 (Forwarded (forwarded_event 7 (lit< tt) 128 10)) ∷ Accept 1 (forwarded_event 7 (lit< tt) 128 10) (Of 0 0)
    ∷ Accept 1 (forwarded_event 8 (lit< tt) 128 20) (Of 0 1) ∷ Give 2 1 0 ∷ Give 2 1 1 ∷ []

-- the first of two ordered events is released, and the second needn't wait
abbrev pub first_released : List Step
first_released =
    entry (new_event 7 (lit< tt) 128 1) ∷ entry (new_event 8 (lit< tt) 128 2) ∷ Give 1 0 0 ∷ Give 2 0 1 ∷ Done 1 Released
    ∷ Done 2 (Forwarded (forwarded_event 8 (lit< tt) 128 20)) ∷ Accept 1 (forwarded_event 8 (lit< tt) 128 20) (Of 0 1) ∷ Give 2 1 0 ∷ []

-- an ordered queue hands the higher level out first, and restores the order of the hand-out
abbrev pub mixed_levels : List Step
mixed_levels =
    entry (new_event 7 (lit< tt) 255 1) ∷ entry (new_event 7 (lit< tt) 0 2) ∷ Give 1 0 1 ∷ Give 2 0 0 ∷ Done 2 (Forwarded (forwarded_event 7 (lit< tt) 255 10))
    ∷ Done 1 (Forwarded (forwarded_event 7 (lit< tt) 0 20)) ∷ Accept 1 (forwarded_event 7 (lit< tt) 0 20) (Of 0 1)
    ∷ Accept 1 (forwarded_event 7 (lit< tt) 255 10) (Of 0 0) ∷ Give 2 1 0 ∷ Give 2 1 1 ∷ []

-- a lane whose ring is full is given the event later
abbrev pub full_ring : List Step
full_ring = entry (new_event 7 (lit< tt) 128 1) ∷ Bounced 1 ∷ Give 1 0 0 ∷ Done 1 Released ∷ []

-- after Shut new events are turned away, and what is inside is still given, answered and passed on
abbrev pub turned_away : List Step
turned_away =
    entry (new_event 7 (lit< tt) 128 1) ∷ Give 1 0 0 ∷ Shut ∷ Turned 0 (new_event 8 (lit< tt) 128 2) ∷ Done 1 (Forwarded (forwarded_event 7 (lit< tt) 128 10))
    ∷ Accept 1 (forwarded_event 7 (lit< tt) 128 10) (Of 0 0) ∷ Turned 0 (new_event 9 (lit< tt) 128 3) ∷ Give 2 1 0 ∷ Done 2 Released ∷ []

-- the events of a slot go to its flow lane: those of flow 7 to that of slot 3, that of flow 5 to that of slot 1
abbrev pub flow_lanes_given : List Step
flow_lanes_given =
    entry (new_event 7 (lit< tt) 128 1) ∷ entry (new_event 7 (lit< tt) 128 2) ∷ entry (new_event 5 (lit< tt) 128 3) ∷ Give 6 0 0 ∷ Give 6 0 1 ∷ Give 4 0 2
    ∷ Done 4 Released ∷ []

-- two events are added beside one of an atomic queue, and each is accepted at once; then that one is released
abbrev pub two_added : List Step
two_added =
    entry (new_event 7 (lit< tt) 128 1) ∷ Give 1 0 0 ∷ More 1 (added_event 7 (lit< tt) 128 10) ∷ Accept 1 (added_event 7 (lit< tt) 128 10) (Of 0 0)
    ∷ More 1 (added_event 8 (lit< tt) 128 20) ∷ Accept 1 (added_event 8 (lit< tt) 128 20) (Of 0 0) ∷ Done 1 Released ∷ Give 1 1 0 ∷ Give 1 1 1 ∷ []

-- an event is added beside the second of two ordered ones, which is released, and waits for the first to be forwarded
abbrev pub added_waits : List Step
added_waits =
    entry (new_event 7 (lit< tt) 128 1) ∷ entry (new_event 8 (lit< tt) 128 2) ∷ Give 1 0 0 ∷ Give 2 0 1 ∷ More 2 (added_event 8 (lit< tt) 128 20)
    ∷ Done 2 Released ∷ Done 1 (Forwarded (forwarded_event 7 (lit< tt) 128 10)) ∷ Accept 1 (forwarded_event 7 (lit< tt) 128 10) (Of 0 0)
    ∷ Accept 1 (added_event 8 (lit< tt) 128 20) (Of 0 1) ∷ Give 2 1 0 ∷ Give 2 1 1 ∷ []

-- ---- wrong logs, which no device may write

-- an event of flow 7 that is brought in, what one is forwarded as, and one that is added beside it
abbrev pub brought : ℕ → Event
brought payload = new_event 7 (lit< tt) 128 payload

abbrev pub passed_on : ℕ → Event
passed_on payload = forwarded_event 7 (lit< tt) 128 payload

abbrev pub added : ℕ → Event
added payload = added_event 7 (lit< tt) 128 payload

-- a number is given twice
abbrev pub given_twice : List Step
given_twice = entry (brought 1) ∷ Give 1 0 0 ∷ Give 1 0 0 ∷ []

-- an event is given while an earlier one of its flow and level waits
abbrev pub overtaken : List Step
overtaken = entry (brought 1) ∷ entry (brought 2) ∷ Give 1 0 1 ∷ []

-- two unanswered events of one slot stand on two lanes, since the slot was free after the first of two answers
abbrev pub split_slot : List Step
split_slot = entry (brought 1) ∷ entry (brought 2) ∷ Give 1 0 0 ∷ Give 1 0 1 ∷ Done 1 Released ∷ entry (brought 3) ∷ Give 2 0 2 ∷ []

-- a forward of an ordered queue is accepted while an event that was handed out before is unanswered
abbrev pub accepted_early : List Step
accepted_early =
    entry (brought 1) ∷ entry (brought 2) ∷ Give 1 0 0 ∷ Give 2 0 1 ∷ Done 2 (Forwarded (passed_on 20)) ∷ Accept 1 (passed_on 20) (Of 0 1) ∷ []

-- a forward of an ordered queue stays kept, though all that was handed out before is answered
abbrev pub kept_for_good : List Step
kept_for_good = entry (brought 1) ∷ entry (brought 2) ∷ Give 1 0 0 ∷ Give 2 0 1 ∷ Done 2 (Forwarded (passed_on 20)) ∷ Done 1 Released ∷ []

-- one forward is accepted twice
abbrev pub accepted_twice : List Step
accepted_twice =
    entry (brought 1) ∷ Give 1 0 0 ∷ Done 1 (Forwarded (passed_on 10)) ∷ Accept 1 (passed_on 10) (Of 0 0) ∷ Accept 1 (passed_on 10) (Of 0 0) ∷ []

-- an event is accepted as new after Shut, one is turned away before it, Shut stands twice
abbrev pub new_after_shut : List Step
new_after_shut = Shut ∷ entry (brought 1) ∷ []

abbrev pub turned_before_shut : List Step
turned_before_shut = Turned 0 (brought 1) ∷ Shut ∷ []

abbrev pub shut_twice : List Step
shut_twice = Shut ∷ Shut ∷ []

-- a lane is given an event of a queue that it doesn't serve
abbrev pub not_linked : List Step
not_linked = entry (brought 1) ∷ Give 0 0 0 ∷ []

-- a lane answers before it was given anything
abbrev pub answered_early : List Step
answered_early = entry (brought 1) ∷ Done 1 Released ∷ Give 1 0 0 ∷ []

-- a lane is given one event more than its depth
abbrev pub beyond_depth : List Step
beyond_depth =
    entry (brought 1) ∷ entry (brought 2) ∷ entry (brought 3) ∷ entry (brought 4) ∷ entry (brought 5) ∷ Give 1 0 0 ∷ Give 1 0 1 ∷ Give 1 0 2 ∷ Give 1 0 3
    ∷ Give 1 0 4 ∷ []

-- another event is accepted than was forwarded
abbrev pub exchanged : List Step
exchanged = entry (brought 1) ∷ Give 1 0 0 ∷ Done 1 (Forwarded (passed_on 10)) ∷ Accept 1 (passed_on 11) (Of 0 0) ∷ []

-- of two events of one flow of an atomic queue the later one's forward is accepted first
abbrev pub accepted_backwards : List Step
accepted_backwards =
    entry (brought 1) ∷ entry (brought 2) ∷ Give 1 0 0 ∷ Give 1 0 1 ∷ Done 1 (Forwarded (passed_on 10)) ∷ Done 1 (Forwarded (passed_on 20))
    ∷ Accept 1 (passed_on 20) (Of 0 1) ∷ Accept 1 (passed_on 10) (Of 0 0) ∷ []

-- an event is accepted into a queue that isn't there
abbrev pub no_such_queue : List Step
no_such_queue = Accept 5 (event_with ops.New 5 7 (lit< tt) 128 1) (New 0) ∷ []

-- a number is given that wasn't accepted
abbrev pub given_before : List Step
given_before = Give 1 0 0 ∷ entry (brought 1) ∷ []

-- an event is turned away that names a queue that isn't there
abbrev pub turned_nowhere : List Step
turned_nowhere = Shut ∷ Turned 0 (event_with ops.New 5 7 (lit< tt) 128 1) ∷ []

-- a flow lane brings an event
abbrev pub flow_lane_brings : List Step
flow_lane_brings = Accept 0 (brought 1) (New 6) ∷ []

-- an event of a slot that has a flow lane is given to a port's lane, or to the flow lane of another slot
abbrev pub given_past_flow_lane : List Step
given_past_flow_lane = entry (brought 1) ∷ Give 1 0 0 ∷ []

abbrev pub given_to_other_slot : List Step
given_to_other_slot = entry (brought 1) ∷ Give 4 0 0 ∷ []

-- an event that was added beside one of an ordered queue is accepted while an event that was handed out before is unanswered, or while
-- that one is
abbrev pub added_early : List Step
added_early =
    entry (brought 1) ∷ entry (brought 2) ∷ Give 1 0 0 ∷ Give 2 0 1 ∷ More 2 (added 20) ∷ Done 2 Released ∷ Accept 1 (added 20) (Of 0 1) ∷ []

abbrev pub added_at_once : List Step
added_at_once = entry (brought 1) ∷ Give 1 0 0 ∷ More 1 (added 10) ∷ Accept 1 (added 10) (Of 0 0) ∷ []

-- once an event was added the next one of the slot is given to another lane, though nothing is answered
abbrev pub ended_by_added : List Step
ended_by_added =
    entry (brought 1) ∷ entry (brought 2) ∷ Give 1 0 0 ∷ More 1 (added 10) ∷ Accept 1 (added 10) (Of 0 0) ∷ Give 2 0 1 ∷ []

-- five events are added beside one
abbrev pub added_too_many : List Step
added_too_many =
    entry (brought 1) ∷ Give 1 0 0 ∷ More 1 (added 10) ∷ More 1 (added 20) ∷ More 1 (added 30) ∷ More 1 (added 40) ∷ More 1 (added 50) ∷ []

-- an event is added on a lane that has nothing unanswered
abbrev pub added_to_none : List Step
added_to_none = entry (brought 1) ∷ More 1 (added 10) ∷ []

-- an event that was added beside one of an ordered queue stays kept, though that one is released and none was handed out before
abbrev pub added_kept_for_good : List Step
added_kept_for_good = entry (brought 1) ∷ Give 1 0 0 ∷ More 1 (added 10) ∷ Done 1 Released ∷ []
