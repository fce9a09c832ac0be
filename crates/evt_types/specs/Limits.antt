-- The limits of a device, as numbers (own; Event Device Library, `rte_event_dev_info`: a device names the most that it can have).
use Rattle.std.specs.Prelude.{ℕ}

-- the most queues, and the most ports
abbrev pub most_queues : ℕ
most_queues = 32

abbrev pub most_ports : ℕ
most_ports = 32

-- the highest limit on the events inside (Event Device Library, `nb_events_limit`)
abbrev pub most_events : ℕ
most_events = 16384

-- the most events that a port holds, and the most room of a reply ring
abbrev pub most_depth : ℕ
most_depth = 64

-- the most slots of an atomic queue, and of all together (Event Device Library, `nb_atomic_flows`)
abbrev pub most_slots : ℕ
most_slots = 64

abbrev pub most_slots_in_all : ℕ
most_slots_in_all = 128

-- the most events of an ordered queue that are handed out before the first is answered (`nb_atomic_order_sequences`)
abbrev pub most_order : ℕ
most_order = 256

-- the highest sweep quantum (Software Eventdev, "Scheduling Quanta")
abbrev pub most_sweep : ℕ
most_sweep = 64

-- how many events a flow lane's holder holds, and the room of its reply ring
abbrev pub flow_lane_depth : ℕ
flow_lane_depth = 16

-- the most events that are added beside one, and as how many it may be passed on
abbrev pub most_extras : ℕ
most_extras = 4

abbrev pub most_forwards : ℕ
most_forwards = 5
