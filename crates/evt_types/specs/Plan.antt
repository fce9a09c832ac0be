-- A device's configuration as contracts see it (Event Device Library, "Queues", "Ports", "Linking Queues and Ports").
use Rattle.std.specs.Prelude.{ℕ, ◌+◌, ◌-◌, ◌*◌, ◌/◌, ◌%◌, Bool, true, false, not, ◌&&◌, ◌==◌, nat_lt, List, [], length, map, filter, flat_map, sum_by, slice_get, slice_index_or, Option, Some, None, if◌then◌else◌}
use Rattle.std.specs.List.{range_with_len}
use Rattle.lists.specs.Lists.{has}
use Rattle.evt_types.specs.declared.draft.Draft.{Draft}
use Rattle.evt_types.specs.declared.draft.PortDraft.{PortDraft}
use Rattle.evt_types.specs.declared.draft.QueueDraft.{QueueDraft}
use Rattle.evt_types.specs.declared.draft.Serving.{Serving}
use Rattle.evt_types.specs.declared.draft.Serving.TheVariants.{Ports, Flows}
use Rattle.evt_types.specs.declared.event.Event.{Event}
use Rattle.evt_types.specs.declared.event.Kind.{Kind}
use Rattle.evt_types.specs.declared.event.Kind.TheVariants.{Ordered, Atomic, Parallel}
use Rattle.evt_types.specs.declared.flows.FlowLane.{FlowLane}
use Rattle.evt_types.specs.Limits.{flow_lane_depth}

-- a port: what it may draw and hold, and the queues that it is linked to
pub record PortPlan : Type 0 where
  pub threshold : ℕ
  pub depth : ℕ
  pub replies : ℕ
  pub implicit : Bool
  pub links : List ℕ

-- a device
pub record Plan : Type 0 where
  pub limit : ℕ
  pub quantum : ℕ
  pub sweep : ℕ
  pub serving : Serving
  pub queues : List QueueDraft
  pub ports : List PortPlan

-- what a draft says
abbrev pub port_plan : PortDraft → PortPlan
port_plan p = record { threshold = p.threshold; depth = p.depth; replies = p.replies; implicit = p.implicit; links = p.links.items }

abbrev pub plan_of : Draft → Plan
plan_of d =
    record { limit = d.limit; quantum = d.quantum; sweep = d.sweep; serving = d.serving; queues = d.queues.items; ports = map port_plan d.ports.items }

abbrev pub is_atomic : Kind → Bool
is_atomic Atomic = true
is_atomic Ordered = false
is_atomic Parallel = false

abbrev pub is_ordered : Kind → Bool
is_ordered Ordered = true
is_ordered Atomic = false
is_ordered Parallel = false

-- The queue and the port of a number. One that isn't there serves nothing and holds nothing.
abbrev pub queue_in : List QueueDraft → ℕ → QueueDraft
queue_in qs q = slice_index_or qs q (record { kind = Parallel; priority = 0; slots = 0; order = 0; single = false })

abbrev pub queue_of : Plan → ℕ → QueueDraft
queue_of p q = queue_in p.queues q

abbrev pub port_of : Plan → ℕ → PortPlan
port_of p l = slice_index_or p.ports l (record { threshold = 0; depth = 0; replies = 0; implicit = false; links = [] })

abbrev pub is_flows : Serving → Bool
is_flows Ports = false
is_flows Flows = true

-- an atomic queue's slots count; another queue has none
abbrev pub atomic_slots : QueueDraft → ℕ
atomic_slots q = if is_atomic q.kind then q.slots else 0

-- ---- lanes (own; the Software Eventdev's one core binds a flow to a port)

-- a lane for each of the queue's slots
abbrev pub slot_lanes : ℕ → ℕ → List FlowLane
slot_lanes q slots = map (λ slot. record { queue = q; slot = slot }) (range_with_len 0 slots)

abbrev pub lanes_at : List QueueDraft → ℕ → List FlowLane
lanes_at qs q = slot_lanes q (atomic_slots (queue_in qs q))

-- a lane for each slot of each atomic queue, by queue, then slot
unfoldable pub lanes_by_slot : List QueueDraft → List FlowLane
lanes_by_slot qs = flat_map (lanes_at qs) (range_with_len 0 (length qs))

-- the flow lanes: with `Flows` these, with `Ports` none
unfoldable pub flow_lanes : Plan → List FlowLane
flow_lanes p = if is_flows p.serving then lanes_by_slot p.queues else []

-- Port l has lane l; the flow lanes are numbered after the ports' lanes.
unfoldable pub lanes_of : Plan → ℕ
lanes_of p = length p.ports + length (flow_lanes p)

-- the flow lane that has this number among all lanes
abbrev pub flow_at : Plan → ℕ → Option FlowLane
flow_at p l = slice_get (flow_lanes p) (l - length p.ports)

abbrev pub flow_depth : Option FlowLane → ℕ
flow_depth None = 0
flow_depth (Some flow) = flow_lane_depth

-- how many events the lane's holder may hold, and the room of its reply ring
unfoldable pub depth_of : Plan → ℕ → ℕ
depth_of p l = if nat_lt l (length p.ports) then (port_of p l).depth else flow_depth (flow_at p l)

unfoldable pub replies_of : Plan → ℕ → ℕ
replies_of p l = if nat_lt l (length p.ports) then (port_of p l).replies else flow_depth (flow_at p l)

abbrev pub is_linked_flow : List ℕ → Option FlowLane → Bool
is_linked_flow links None = false
is_linked_flow links (Some flow) = has flow.queue links

-- of some flow lanes, the places of those whose queues are among the links, rising
unfoldable pub linked_places : List FlowLane → List ℕ → List ℕ
linked_places flows links = filter (λ place. is_linked_flow links (slice_get flows place)) (range_with_len 0 (length flows))

-- the flow lanes, from 0, of the atomic queues that the port is linked to
abbrev pub flow_links : Plan → ℕ → List ℕ
flow_links p port = linked_places (flow_lanes p) (port_of p port).links

-- the numbers of the queues, and of the lanes
abbrev pub queues : Plan → List ℕ
queues p = range_with_len 0 (length p.queues)

abbrev pub lanes : Plan → List ℕ
lanes p = range_with_len 0 (lanes_of p)

-- how many events of the queue may be kept
abbrev pub kept_room : QueueDraft → ℕ
kept_room q = if is_ordered q.kind then q.order else 0

-- how many events may be inside for a NEW to be taken: the limit, and the replies of all lanes (own)
unfoldable pub bound_of : Plan → ℕ
bound_of p = p.limit + sum_by (λ (port : PortPlan). port.replies) p.ports + flow_lane_depth * length (flow_lanes p)

-- an event's level: 0 is served first (own; Software Eventdev, "Event Priorities")
abbrev pub level_of : Event → ℕ
level_of e = e.priority / 64

-- the slot of a flow: an atomic queue has several, any other the slot 0 alone (own)
abbrev pub slot_of : Plan → ℕ → ℕ → ℕ
slot_of p q flow = if is_atomic (queue_of p q).kind then flow % (queue_of p q).slots else 0

-- whether the queue's events are handed to flow lanes
abbrev pub has_flow_lanes : Plan → ℕ → Bool
has_flow_lanes p q = is_flows p.serving && is_atomic (queue_of p q).kind

abbrev pub is_lane_of : ℕ → ℕ → Option FlowLane → Bool
is_lane_of q slot None = false
is_lane_of q slot (Some flow) = (flow.queue == q) && (flow.slot == slot)

-- whether the lane is handed events of this slot of the queue: a port's lane serves the queues that the port is linked to, a flow
-- lane its slot; with `Flows` this lane alone serves it
unfoldable pub serves : Plan → ℕ → ℕ → ℕ → Bool
serves p l q slot =
    if nat_lt l (length p.ports) then has q (port_of p l).links && not (has_flow_lanes p q) else is_lane_of q slot (flow_at p l)
