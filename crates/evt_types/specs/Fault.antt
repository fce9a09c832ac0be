-- The first refusal of a configuration (the ranges are own). Each test is made over all queues or ports before the next.
use Rattle.std.specs.Prelude.{ℕ, ◌≡◌, ◌≢◌, ◌<◌, ◌≤◌, Bool, true, false, ◌&&◌, ◌||◌, List, [], ◌∷◌, ◌==◌, nat_lt, nat_le}
use Rattle.std.specs.Prelude.{length, count_by, sum_by, All, AllPairs, Option, Some, None, if◌then◌else◌}
use Rattle.std.specs.List.{list_any}
use Rattle.evt_types.specs.Plan.{Plan, PortPlan, atomic_slots, is_atomic, is_ordered, queue_of, queues}
use Rattle.lists.specs.Lists.{has}
use Rattle.evt_types.specs.Limits.{most_depth, most_events, most_order, most_ports, most_queues, most_slots, most_slots_in_all, most_sweep}
use Rattle.evt_types.specs.declared.draft.QueueDraft.{QueueDraft}
use Rattle.evt_types.specs.declared.shape.ShapeFault.{ShapeFault}
use Rattle.evt_types.specs.declared.shape.ShapeFault.TheVariants as faults

-- whether n isn't one of low..=high
abbrev pub outside : ℕ → ℕ → ℕ → Bool
outside low high n = nat_lt n low || nat_lt high n

-- a threshold below the quantum or above the limit
abbrev pub bad_threshold : Plan → PortPlan → Bool
bad_threshold p port = outside p.quantum p.limit port.threshold

-- some port has a bad threshold
unfoldable pub thresholds_bad : Plan → Bool
thresholds_bad p = list_any (bad_threshold p) p.ports

-- a port that may hold, or answer, nothing or too much
abbrev pub bad_depth : PortPlan → Bool
bad_depth port = outside 1 most_depth port.depth || outside 1 most_depth port.replies

-- some port has a bad depth
unfoldable pub depths_bad : Plan → Bool
depths_bad p = list_any bad_depth p.ports

-- an atomic queue with no slot or too many
abbrev pub bad_slots : QueueDraft → Bool
bad_slots q = is_atomic q.kind && outside 1 most_slots q.slots

-- some atomic queue has bad slots, or all together have too many
unfoldable pub slots_bad : Plan → Bool
slots_bad p = list_any bad_slots p.queues || nat_lt most_slots_in_all (sum_by atomic_slots p.queues)

-- an ordered queue that may hand out nothing, or too much
abbrev pub bad_order : QueueDraft → Bool
bad_order q = is_ordered q.kind && outside 1 most_order q.order

-- some queue has a bad order
unfoldable pub orders_bad : Plan → Bool
orders_bad p = list_any bad_order p.queues

-- a port that names none of so many queues
abbrev pub has_unknown : ℕ → PortPlan → Bool
has_unknown queue_count port = list_any (λ q. nat_le queue_count q) port.links

-- some port names a queue that isn't there
unfoldable pub link_unknown : Plan → Bool
link_unknown p = list_any (has_unknown (length p.queues)) p.ports

-- some number stands twice
abbrev pub has_twice : List ℕ → Bool
has_twice [] = false
has_twice (x ∷ xs) = has x xs || has_twice xs

-- some port names a queue twice
unfoldable pub link_twice : Plan → Bool
link_twice p = list_any (λ (port : PortPlan). has_twice port.links) p.ports

-- how many ports are linked to the queue
abbrev pub links_to : Plan → ℕ → ℕ
links_to p q = count_by (λ (port : PortPlan). has q port.links) p.ports

-- some queue has no port
unfoldable pub queue_unlinked : Plan → Bool
queue_unlinked p = list_any (λ q. links_to p q == 0) (queues p)

-- a single-link queue with two ports or more
abbrev pub is_shared_single : Plan → ℕ → Bool
is_shared_single p q = (queue_of p q).single && nat_lt 1 (links_to p q)

-- some single-link queue is shared
unfoldable pub single_bad : Plan → Bool
single_bad p = list_any (is_shared_single p) (queues p)

-- the first refusal
abbrev pub fault_of : Plan → Option ShapeFault
fault_of p =
    if outside 1 most_queues (length p.queues) then Some faults.QueueCount
    else (if outside 1 most_ports (length p.ports) then Some faults.PortCount
    else (if outside 1 most_events p.limit then Some faults.LimitRange
    else (if p.quantum == 0 || nat_lt p.limit p.quantum then Some faults.QuantumRange
    else (if thresholds_bad p then Some faults.ThresholdRange
    else (if depths_bad p then Some faults.DepthRange
    else (if slots_bad p then Some faults.FlowSlots
    else (if orders_bad p then Some faults.OrderDepth
    else (if outside 1 most_sweep p.sweep then Some faults.SweepRange
    else (if link_unknown p then Some faults.LinkUnknown
    else (if link_twice p then Some faults.LinkTwice
    else (if queue_unlinked p then Some faults.QueueUnlinked
    else (if single_bad p then Some faults.SingleLinkCount
    else None))))))))))))

-- n is one of low..=high
abbrev pub IsBetween : ℕ → ℕ → ℕ → Type 0
IsBetween low high n = (low ≤ n) × (n ≤ high)

-- what holds where nothing is refused
pub record IsWithinLimits (p : Plan) : Type 0 where
  pub queue_count : IsBetween 1 most_queues (length p.queues)
  pub port_count : IsBetween 1 most_ports (length p.ports)
  pub limit : IsBetween 1 most_events p.limit
  pub quantum : IsBetween 1 p.limit p.quantum
  pub thresholds : All (λ (port : PortPlan). IsBetween p.quantum p.limit port.threshold) p.ports
  pub depths : All (λ (port : PortPlan). IsBetween 1 most_depth port.depth) p.ports
  pub replies : All (λ (port : PortPlan). IsBetween 1 most_depth port.replies) p.ports
  pub slots : All (λ (q : QueueDraft). is_atomic q.kind ≡ true → IsBetween 1 most_slots q.slots) p.queues
  pub all_slots : sum_by atomic_slots p.queues ≤ most_slots_in_all
  pub orders : All (λ (q : QueueDraft). is_ordered q.kind ≡ true → IsBetween 1 most_order q.order) p.queues
  pub sweep : IsBetween 1 most_sweep p.sweep
  pub links_known : All (λ (port : PortPlan). All (λ q. q < length p.queues) port.links) p.ports
  pub links_once : All (λ (port : PortPlan). AllPairs (λ m n. m ≢ n) port.links) p.ports
  pub linked : (q : ℕ) → q < length p.queues → 1 ≤ links_to p q
  pub single : (q : ℕ) → q < length p.queues → (queue_of p q).single ≡ true → links_to p q ≡ 1
