-- The flow lanes of a configuration: how many there are, and what the depth and the replies of a lane are.
use Rattle.std.proofs.Common.{◌≡◌, ℕ, ◌+◌, ◌-◌, ◌*◌, ◌<◌, ◌≤◌, Bool, true, false, not, ◌&&◌, ◌==◌, cond, List, [], ◌∷◌, ◌++◌, length, get_or, Some, if◌then◌else◌, refl, sym, ap, ◌∙◌, subst, arith, lit≤, ◌⊎◌, inl, inr}
use Rattle.std.proofs.lemmas.Bool.{cases_lt, lt-ltb, le-ltb}
use Rattle.std.proofs.lemmas.List.{append-nil, get_or_default}
use Rattle.std.specs.List.{range_with_len, sum_by, flat_map, filter}
use Rattle.std.proofs.lemmas.List.Concat.{length-flat_map}
use Rattle.std.proofs.lemmas.Option.{slice_get-get_or}
use Rattle.std.proofs.lemmas.List.FromFn.{length-map-range_with_len, map-range_with_len_more}
use Rattle.lists.proofs.Ranges.{filter_range_more, flat_map_range_more}
use Rattle.lists.proofs.Sums.{sum_agree, sum_by_place}
use Rattle.lists.specs.Lists.{has}
use Rattle.evt_types.specs.Fault.{IsBetween, IsWithinLimits}
use Rattle.evt_types.specs.Plan.{Plan, PortPlan, atomic_slots, slot_lanes, lanes_at, lanes_by_slot, flow_lanes, lanes_of, flow_at, depth_of, replies_of, port_of, queue_in, is_flows, is_lane_of, has_flow_lanes, serves, flow_depth, bound_of}
use Rattle.evt_types.specs.declared.draft.Serving.TheVariants.{Ports}
use Rattle.evt_types.specs.declared.draft.QueueDraft.{QueueDraft}
use Rattle.evt_types.specs.declared.event.Kind.TheVariants.{Parallel}
use Rattle.evt_types.specs.declared.flows.FlowLane.{FlowLane}
use Rattle.evt_types.specs.declared.flows.TheConstants.{FLOW_DEPTH}
use Rattle.evt_types.specs.declared.shape.TheConstants.{MAX_ALL_SLOTS, MAX_DEPTH, MAX_LANES}

-- one slot more
pub slot_lanes_more : (q n : ℕ) → slot_lanes q (n + 1) ≡ slot_lanes q n ++ record { queue = q; slot = n } ∷ []
slot_lanes_more q n = map-range_with_len_more (λ slot. record { queue = q; slot = slot }) 0 n n (omega arith)

-- the slots of one queue more
pub queues_more :
    (qs : List QueueDraft) (q : ℕ) (d : QueueDraft) → q < length qs
    → flat_map (lanes_at qs) (range_with_len 0 (q + 1)) ≡ flat_map (lanes_at qs) (range_with_len 0 q) ++ slot_lanes q (atomic_slots (get_or qs q d))
queues_more qs q d there =
    flat_map_range_more (lanes_at qs) q
    ∙ ap (λ draft. flat_map (lanes_at qs) (range_with_len 0 q) ++ slot_lanes q (atomic_slots draft)) (get_or_default qs q (record { kind = Parallel; priority = 0; slots = 0; order = 0; single = false }) d there)

-- there are as many as atomic queues have slots
length-lanes_by_slot : (qs : List QueueDraft) → length (lanes_by_slot qs) ≡ sum_by atomic_slots qs
unfolding lanes_by_slot
length-lanes_by_slot qs =
    length-flat_map (lanes_at qs) (range_with_len 0 (length qs))
    ∙ (sum_agree (λ q. length (lanes_at qs q)) (λ q. atomic_slots (queue_in qs q)) (range_with_len 0 (length qs))
    (λ k d h. length-map-range_with_len _ 0 _)
    ∙ sum_by_place atomic_slots qs _)

few_by_serving : (b : Bool) (qs : List QueueDraft) → sum_by atomic_slots qs ≤ MAX_ALL_SLOTS → length (if b then lanes_by_slot qs else []) ≤ MAX_ALL_SLOTS
few_by_serving true qs few = subst (λ n. n ≤ MAX_ALL_SLOTS) (sym (length-lanes_by_slot qs)) few
few_by_serving false qs few = omega arith

pub flows_few : (p : Plan) → IsWithinLimits p → length (flow_lanes p) ≤ MAX_ALL_SLOTS
unfolding flow_lanes
flows_few p w = few_by_serving (is_flows p.serving) p.queues w.all_slots

-- one flow lane more: it is linked, or not
more_linked : (places : List ℕ) (n : ℕ) (p : ℕ → Bool) (b : Bool) → p n ≡ b → places ≡ filter p (range_with_len 0 n) → places ++ cond b (n ∷ []) [] ≡ filter p (range_with_len 0 (n + 1))
more_linked places n p b is so_far = ap (λ ns. ns ++ cond b (n ∷ []) []) so_far ∙ (ap (λ c. filter p (range_with_len 0 n) ++ cond c (n ∷ []) []) (sym is) ∙ sym (filter_range_more p n))

pub linked_more : (places : List ℕ) (n : ℕ) (p : ℕ → Bool) → p n ≡ true → places ≡ filter p (range_with_len 0 n) → places ++ n ∷ [] ≡ filter p (range_with_len 0 (n + 1))
linked_more places n p is so_far = more_linked places n p true is so_far

pub linked_same : (places : List ℕ) (n : ℕ) (p : ℕ → Bool) → p n ≡ false → places ≡ filter p (range_with_len 0 n) → places ≡ filter p (range_with_len 0 (n + 1))
linked_same places n p is so_far = sym (append-nil places) ∙ more_linked places n p false is so_far

-- ---- a port's lane, and a flow lane

pub depth_of_port : (p : Plan) (l : ℕ) → l < length p.ports → depth_of p l ≡ (port_of p l).depth
unfolding depth_of
depth_of_port p l h = ap (λ b. if b then (port_of p l).depth else flow_depth (flow_at p l)) (lt-ltb l (length p.ports) h)

pub replies_of_port : (p : Plan) (l : ℕ) → l < length p.ports → replies_of p l ≡ (port_of p l).replies
unfolding replies_of
replies_of_port p l h = ap (λ b. if b then (port_of p l).replies else flow_depth (flow_at p l)) (lt-ltb l (length p.ports) h)

pub serves_port : (p : Plan) (l q slot : ℕ) → l < length p.ports → serves p l q slot ≡ (has q (port_of p l).links && not (has_flow_lanes p q))
unfolding serves
serves_port p l q slot h =
    ap (λ b. if b then has q (port_of p l).links && not (has_flow_lanes p q) else is_lane_of q slot (flow_at p l)) (lt-ltb l (length p.ports) h)

pub serves_flow : (p : Plan) (l q slot : ℕ) → length p.ports ≤ l → serves p l q slot ≡ is_lane_of q slot (flow_at p l)
unfolding serves
serves_flow p l q slot h =
    ap (λ b. if b then has q (port_of p l).links && not (has_flow_lanes p q) else is_lane_of q slot (flow_at p l)) (le-ltb l (length p.ports) h)

pub lanes_are : (p : Plan) → lanes_of p ≡ length p.ports + length (flow_lanes p)
unfolding lanes_of
lanes_are p = refl

pub lanes_few : (p : Plan) → IsWithinLimits p → lanes_of p ≤ MAX_LANES
lanes_few p w = let count = w.port_count in omega (arith, lanes_are p, flows_few p w)

-- served by its ports, a device has no other lanes
pub lanes_by_ports : (p : Plan) → p.serving ≡ Ports → lanes_of p ≡ length p.ports
unfolding flow_lanes
lanes_by_ports p by = omega (arith, lanes_are p, ap (λ s. length (if is_flows s then lanes_by_slot p.queues else [])) by)

pub port_is_lane : (p : Plan) (l : ℕ) → l < length p.ports → l < lanes_of p
port_is_lane p l own = omega (arith, lanes_are p)

-- the flow lane of a number past the ports'
pub flow_at_is : (p : Plan) (l : ℕ) (d : FlowLane) → length p.ports ≤ l → l < lanes_of p → flow_at p l ≡ Some (get_or (flow_lanes p) (l - length p.ports) d)
flow_at_is p l d past h =
    let within : l - length p.ports < length (flow_lanes p) = omega (arith, lanes_are p) in
    slice_get-get_or (flow_lanes p) (l - length p.ports) d within

some_flow : FlowLane
some_flow = record { queue = 0; slot = 0 }

pub depth_of_flow : (p : Plan) (l : ℕ) → length p.ports ≤ l → l < lanes_of p → depth_of p l ≡ FLOW_DEPTH
unfolding depth_of
depth_of_flow p l past h =
    ap (λ b. if b then (port_of p l).depth else flow_depth (flow_at p l)) (le-ltb l (length p.ports) past)
    ∙ ap flow_depth (flow_at_is p l some_flow past h)

pub replies_of_flow : (p : Plan) (l : ℕ) → length p.ports ≤ l → l < lanes_of p → replies_of p l ≡ FLOW_DEPTH
unfolding replies_of
replies_of_flow p l past h =
    ap (λ b. if b then (port_of p l).replies else flow_depth (flow_at p l)) (le-ltb l (length p.ports) past)
    ∙ ap flow_depth (flow_at_is p l some_flow past h)

-- the depth and the replies of each lane are within their limits
pub depth_within : (p : Plan) (l : ℕ) → IsWithinLimits p → l < lanes_of p → IsBetween 1 MAX_DEPTH (depth_of p l)
depth_within p l w h = by_case (cases_lt l (length p.ports))
  where
    by_case : (l < length p.ports) ⊎ (length p.ports ≤ l) → IsBetween 1 MAX_DEPTH (depth_of p l)
    by_case (inl own) = subst (IsBetween 1 MAX_DEPTH) (sym (depth_of_port p l own)) (w.depths l _ own)
    by_case (inr past) = subst (IsBetween 1 MAX_DEPTH) (sym (depth_of_flow p l past h)) (lit≤ tt, lit≤ tt)

pub replies_within : (p : Plan) (l : ℕ) → IsWithinLimits p → l < lanes_of p → IsBetween 1 MAX_DEPTH (replies_of p l)
replies_within p l w h = by_case (cases_lt l (length p.ports))
  where
    by_case : (l < length p.ports) ⊎ (length p.ports ≤ l) → IsBetween 1 MAX_DEPTH (replies_of p l)
    by_case (inl own) = subst (IsBetween 1 MAX_DEPTH) (sym (replies_of_port p l own)) (w.replies l _ own)
    by_case (inr past) = subst (IsBetween 1 MAX_DEPTH) (sym (replies_of_flow p l past h)) (lit≤ tt, lit≤ tt)

-- what the flow lane at a place serves
pub lane_of_place : (p : Plan) (l q slot : ℕ) (flow : FlowLane) → length p.ports ≤ l → flow_at p l ≡ Some flow → serves p l q slot ≡ ((flow.queue == q) && (flow.slot == slot))
lane_of_place p l q slot flow past is = serves_flow p l q slot past ∙ ap (is_lane_of q slot) is

-- the replies of all lanes
pub bound_is : (p : Plan) → bound_of p ≡ p.limit + sum_by (λ (port : PortPlan). port.replies) p.ports + FLOW_DEPTH * length (flow_lanes p)
unfolding bound_of
bound_is p = refl
