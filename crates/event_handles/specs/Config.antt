-- What a configuration of C's asks for, and the number of its first fault (rte_eventdev, struct rte_event_dev_config,
-- rte_event_queue_conf, rte_event_port_conf; the order of the faults is own).
use Rattle.std.specs.Prelude.{ℕ, ℤ, negsuc, ◌-◌, ◌/◌, ◌%◌, ◌^◌, ◌==◌, nat_lt, nat_le, Bool, not, ◌&&◌, ◌||◌, List, ◌++◌, length, map, take, filter, replicate, Option, if◌then◌else◌}
use Rattle.std.specs.Prelude.Option.{Some, None}
use Rattle.std.specs.List.{list_any, range_with_len}
use Rattle.std.specs.Option.{option_map}
use Rattle.evt_types.specs.Fault.{fault_of}
use Rattle.evt_types.specs.Plan.{Plan, PortPlan}
use Rattle.evt_types.specs.declared.draft.QueueDraft.{QueueDraft}
use Rattle.evt_types.specs.declared.draft.Serving.{Serving}
use Rattle.evt_types.specs.declared.draft.Serving.TheVariants.{Ports, Flows}
use Rattle.evt_types.specs.declared.event.Kind.{Kind}
use Rattle.evt_types.specs.declared.event.Kind.TheVariants.{Ordered, Atomic, Parallel}
use Rattle.evt_types.specs.declared.shape.ShapeFault.{ShapeFault}
use Rattle.evt_types.specs.declared.shape.ShapeFault.TheVariants as faults
use Rattle.evt_types.specs.declared.shape.TheConstants.{MAX_PORTS, MAX_QUEUES}
use Rattle.event_handles.specs.declared.config.Config.{Config}
use Rattle.event_handles.specs.declared.config.PortConf.{PortConf}
use Rattle.event_handles.specs.declared.config.QueueConf.{QueueConf}

-- ---- the plan

-- 0 ordered, 1 atomic, 2 parallel (RTE_SCHED_TYPE_*)
abbrev pub kind_of_type : ℕ → Kind
kind_of_type t = if t == 0 then Ordered else (if t == 1 then Atomic else Parallel)

-- bit 1: RTE_EVENT_QUEUE_CFG_SINGLE_LINK
abbrev pub queue_draft : QueueConf → QueueDraft
queue_draft q =
    record {
      kind = kind_of_type q.schedule_type;
      priority = q.priority;
      slots = q.nb_atomic_flows;
      order = q.nb_atomic_order_sequences;
      single = q.event_queue_cfg == 2;
    }

-- the bits that are set, rising
abbrev pub has_bit : ℕ → ℕ → Bool
has_bit n k = n / 2 ^ k % 2 == 1

unfoldable pub bits_of : ℕ → List ℕ
bits_of n = filter (has_bit n) (range_with_len 0 32)

-- bit 0: RTE_EVENT_PORT_CFG_DISABLE_IMPL_REL
abbrev pub port_draft : PortConf → PortPlan
port_draft p =
    record {
      threshold = p.new_event_threshold;
      depth = p.dequeue_depth;
      replies = p.enqueue_depth;
      implicit = p.event_port_cfg == 0;
      links = bits_of p.links;
    }

-- bit 0: flow lanes
abbrev pub serving_of : ℕ → Serving
serving_of flags = if flags == 1 then Flows else Ports

-- the queues and the ports that are there: the first ones
abbrev pub queues_in : Config → List QueueConf
queues_in c = take c.nb_event_queues c.queue

abbrev pub ports_in : Config → List PortConf
ports_in c = take c.nb_event_ports c.port

-- the whole configuration
abbrev pub plan_of_config : Config → Plan
plan_of_config c =
    record {
      limit = c.nb_events_limit;
      quantum = c.credit_quanta;
      sweep = c.sched_quanta;
      serving = serving_of c.flags;
      queues = map queue_draft (queues_in c);
      ports = map port_draft (ports_in c);
    }

-- the scheduling types of the queues, and then, up to 32, one that is never asked for
abbrev pub kinds_in : List QueueDraft → List Kind
kinds_in qs = map (λ (q : QueueDraft). q.kind) qs ++ replicate (32 - length qs) Parallel

-- ---- the first fault

-- -1000 for the first of `ShapeFault`, falling; -12 ENOMEM
abbrev pub number_of_fault : ShapeFault → ℤ
number_of_fault faults.QueueCount = negsuc 999
number_of_fault faults.PortCount = negsuc 1000
number_of_fault faults.LimitRange = negsuc 1001
number_of_fault faults.QuantumRange = negsuc 1002
number_of_fault faults.ThresholdRange = negsuc 1003
number_of_fault faults.DepthRange = negsuc 1004
number_of_fault faults.FlowSlots = negsuc 1005
number_of_fault faults.OrderDepth = negsuc 1006
number_of_fault faults.SweepRange = negsuc 1007
number_of_fault faults.LinkUnknown = negsuc 1008
number_of_fault faults.LinkTwice = negsuc 1009
number_of_fault faults.QueueUnlinked = negsuc 1010
number_of_fault faults.SingleLinkCount = negsuc 1011
number_of_fault faults.Memory = negsuc 11

-- a scheduling type that is none
abbrev pub has_unknown_type : QueueConf → Bool
has_unknown_type q = nat_le 3 q.schedule_type

-- a flag beside those that are known
abbrev pub has_unknown_queue_flag : QueueConf → Bool
has_unknown_queue_flag q = not (q.event_queue_cfg == 0) && not (q.event_queue_cfg == 2)

abbrev pub has_unknown_port_flag : PortConf → Bool
has_unknown_port_flag p = nat_lt 1 p.event_port_cfg

abbrev pub has_unknown_flag : Config → Bool
has_unknown_flag c = nat_lt 1 c.flags || list_any has_unknown_queue_flag (queues_in c) || list_any has_unknown_port_flag (ports_in c)

-- -1013 a scheduling type, -1014 a flag that isn't known
abbrev pub unknown_type : ℤ
unknown_type = negsuc 1012

abbrev pub unknown_flag : ℤ
unknown_flag = negsuc 1013

-- the first fault that can be seen before there is a plan
abbrev pub early_fault : Config → Option ℤ
early_fault c =
    if nat_lt MAX_QUEUES c.nb_event_queues then Some (number_of_fault faults.QueueCount)
    else (if nat_lt MAX_PORTS c.nb_event_ports then Some (number_of_fault faults.PortCount)
    else (if list_any has_unknown_type (queues_in c) then Some unknown_type
    else (if has_unknown_flag c then Some unknown_flag
    else None)))

-- the first fault of its plan
abbrev pub late_fault : Config → Option ℤ
late_fault c = option_map number_of_fault (fault_of (plan_of_config c))

abbrev pub option_or : Option ℤ → Option ℤ → Option ℤ
option_or (Some n) o = Some n
option_or None o = o

-- the number of the first fault
abbrev pub fault_in : Config → Option ℤ
fault_in c = option_or (early_fault c) (late_fault c)
