-- What the parts of one device have, as each is known to be of it.
use Rattle.std.proofs.Common.{◌≡◌, ℕ, ◌+◌, ◌<◌, ◌≤◌, suc, List, [], ◌∷◌, take, drop, length, length-drop, map, get_or, All, false, refl, sym, ap, subst, ◌∙◌, arith}
use Rattle.std.specs.Prelude.{slice_get, Some, sum_by}
use Rattle.std.specs.List.{range_with_len}
use Rattle.std.proofs.lemmas.List.{length-map, get_or-map}
use Rattle.std.proofs.lemmas.List.Elements.{All-head, All-tail}
use Rattle.std.proofs.lemmas.List.FromFn.{length-range_with_len}
use Rattle.std.proofs.lemmas.List.Sums.{sum_by-cons}
use Rattle.lists.proofs.Lists.{drop-slice_get}
use Rattle.lists.proofs.Ranges.{mapped_at}
use Rattle.lists.specs.Lists.{has}
use Rattle.evt_types.proofs.FlowLanes.{depth_within, lanes_are, replies_within}
use Rattle.evt_types.specs.Fault.{IsWithinLimits}
use Rattle.evt_types.specs.Plan.{Plan, PortPlan, depth_of, flow_lanes, flow_links, lanes, lanes_of, replies_of}
use Rattle.credit_pool.specs.declared.pool.Credits.{Credits}
use Rattle.flow_claims.specs.Claims as claims
use Rattle.flow_claims.specs.declared.claims.Claims.{Claims}
use Rattle.lane_rings.specs.Identity.{LaneId, far_id, near_id}
use Rattle.lane_rings.specs.declared.near.Near.{Near}
use Rattle.event_ports.specs.Handed.{flow_count}
use Rattle.event_ports.specs.Ports.{account_of, links, own_site}
use Rattle.event_ports.specs.Stop as ports
use Rattle.event_ports.specs.declared.port.Port.{Port}
use Rattle.event_device.specs.Device.{Device, IsDevice, IsPortOf, PortSite, depth_in, number_of, room_in}

-- ---- lanes

lane_count : (d : Device) → IsDevice d → length d.lanes ≡ lanes_of d.plan
lane_count d h =
    omega (arith, length-map d.lanes depth_in, ap length h.depths, length-map (lanes d.plan) (depth_of d.plan), length-range_with_len 0 (lanes_of d.plan))

-- there are as many flow lanes as claims
pub flow_lane_count : (d : Device) → IsDevice d → length (claims.lanes_of d.claims) ≡ length (flow_lanes d.plan)
flow_lane_count d h =
    omega (arith, length-map (claims.lanes_of d.claims) far_id, ap length h.flows, length-drop (length d.plan.ports) d.lanes, lane_count d h, lanes_are d.plan)

-- there are as many lanes as the configuration has
pub nears_counted : (d : Device) (nears : List Near) (p : Plan) → IsDevice d → d.plan ≡ p → map near_id nears ≡ d.lanes → length nears ≡ lanes_of p
nears_counted d nears p h is same = subst (λ q. length nears ≡ lanes_of q) is (omega (arith, ap length same, length-map nears near_id, lane_count d h))

-- no lane is deeper than 64
pub lanes_are_small : (d : Device) (nears : List Near) → IsDevice d → IsWithinLimits d.plan → map near_id nears ≡ d.lanes → All (λ near. ((near_id near).depth ≤ 64) × ((near_id near).room ≤ 64)) nears
lanes_are_small d nears h within same k near short =
    let few : k < length d.lanes = omega (arith, ap length same, length-map nears near_id) in
    let there : k < lanes_of d.plan = omega (arith, few, lane_count d h) in
    let id : LaneId = near_id (get_or nears k near) in
    let is : get_or d.lanes k id ≡ id = ap (λ xs. get_or xs k id) (sym same) ∙ get_or-map near_id nears k near id short in
    let depth : id.depth ≡ depth_of d.plan k =
    ap depth_in (sym is) ∙ (sym (get_or-map depth_in d.lanes k id 0 few) ∙ (ap (λ xs. get_or xs k 0) h.depths ∙ mapped_at (depth_of d.plan) (lanes_of d.plan) k 0 there)) in
    let room : id.room ≡ replies_of d.plan k =
    ap room_in (sym is) ∙ (sym (get_or-map room_in d.lanes k id 0 few) ∙ (ap (λ xs. get_or xs k 0) h.rooms ∙ mapped_at (replies_of d.plan) (lanes_of d.plan) k 0 there)) in
    (omega (arith, depth, (depth_within d.plan k within there).1), omega (arith, room, (replies_within d.plan k within there).1))

-- ---- ports

pub sorted_count : (n : ℕ) (sorted : List Port) → map number_of sorted ≡ range_with_len 0 n → length sorted ≡ n
sorted_count n sorted numbers = omega (arith, ap length numbers, length-map sorted number_of, length-range_with_len 0 n)

-- the lanes of the ports that are numbered from k on
lanes_from : {X Y : Type 0} (number : X → ℕ) (own : X → Y) (ys : List Y) (xs : List X) (k : ℕ) → All (λ x. slice_get ys (number x) ≡ Some (own x)) xs → map number xs ≡ range_with_len k (length xs) → map own xs ≡ take (length xs) (drop k ys)
lanes_from number own ys [] k all e = refl
lanes_from {X} {Y} number own ys (x ∷ xs) k all e =
    let first : number x ≡ k = ap (λ ns. get_or ns 0 0) e in
    let At : ℕ → Type 0 = λ n. slice_get ys n ≡ Some (own x) in
    let at : slice_get ys k ≡ Some (own x) = subst At first (All-head (λ y. slice_get ys (number y) ≡ Some (own y)) x xs all) in
    let rest = lanes_from number own ys xs (k + 1) (All-tail (λ y. slice_get ys (number y) ≡ Some (own y)) x xs all) (ap (drop 1) e) in
    ap (λ zs. own x ∷ zs) rest ∙ ap (take (suc (length xs))) (sym (drop-slice_get ys k (own x) at))

-- the ports' own lanes are the first of the device's
pub own_lanes : (d : Device) (sorted : List Port) → All (IsPortOf d) sorted → map number_of sorted ≡ range_with_len 0 (length d.plan.ports) → map (λ p. (own_site p).lanes.own) sorted ≡ take (length d.plan.ports) d.lanes
own_lanes d sorted all numbers =
    let own : Port → LaneId = λ p. (own_site p).lanes.own in
    let count : length sorted ≡ length d.plan.ports = sorted_count (length d.plan.ports) sorted numbers in
    let there : All (λ p. slice_get d.lanes (number_of p) ≡ Some (own p)) sorted = λ k p short. sym (ap (λ (s : PortSite). s.lane) (all k p short).1) in
    lanes_from number_of own d.lanes sorted 0 there (numbers ∙ ap (range_with_len 0) (sym count)) ∙ ap (λ n. take n d.lanes) count

-- each has one part
all_ones : {X : Type 0} (f : X → ℕ) (xs : List X) → All (λ x. f x ≡ 1) xs → sum_by f xs ≡ length xs
all_ones f [] all = refl
all_ones f (x ∷ xs) all = omega (arith, sum_by-cons f x xs, All-head (λ y. f y ≡ 1) x xs all, all_ones f xs (All-tail (λ y. f y ≡ 1) x xs all))

pub credit_parts : (d : Device) (sorted : List Port) → All (IsPortOf d) sorted → sum_by (λ p. (account_of p).parts) sorted ≡ length sorted
credit_parts d sorted all = all_ones (λ p. (account_of p).parts) sorted (λ k p short. ap (λ (s : PortSite). s.credit_parts) (all k p short).1)

pub claim_parts : (d : Device) (sorted : List Port) → All (IsPortOf d) sorted → sum_by (λ p. (own_site p).lanes.flows.parts) sorted ≡ length sorted
claim_parts d sorted all = all_ones (λ p. (own_site p).lanes.flows.parts) sorted (λ k p short. ap (λ (s : PortSite). s.claim_parts) (all k p short).1)

-- the seats of each are of the device's credits and claims
pub seats_are : (d : Device) (sorted : List Port) (pool : Credits) (all_claims : Claims) → All (IsPortOf d) sorted → d.pool ≡ pool → d.claims ≡ all_claims → All (ports.IsPortOf pool all_claims) sorted
seats_are d sorted pool all_claims all of_pool of_claims k p short =
    record {
      pool_is = ap (λ (s : PortSite). s.pool) (all k p short).1 ∙ of_pool;
      claims_are = ap (λ (s : PortSite). s.claims) (all k p short).1 ∙ of_claims;
    }

-- each is linked to the flow lanes of its number
pub links_agree : (d : Device) (sorted : List Port) → All (IsPortOf d) sorted → All (ports.LinksAgree (λ n j. has j (flow_links d.plan n))) sorted
links_agree d sorted all k p short j there =
    let same : links (get_or sorted k p) ≡ flow_links d.plan (number_of (get_or sorted k p)) = ap (λ (s : PortSite). s.links) (all k p short).1 in
    ap (has j) (sym same) ∙ there

-- and may hold as much as its number's depth
pub depths_small : (d : Device) (sorted : List Port) → IsWithinLimits d.plan → All (IsPortOf d) sorted → All (λ p. (own_site p).lanes.depth ≤ 64) sorted
depths_small d sorted within all k p short =
    let is = all k p short in
    let none : PortPlan = record { threshold = 0; depth = 0; replies = 0; implicit = false; links = [] } in
    omega (arith, ap (λ (s : PortSite). s.depth) is.1, (within.depths (number_of (get_or sorted k p)) none is.0).1)

-- the flow lanes of each are the device's
pub flows_counted : (d : Device) (sorted : List Port) (n : ℕ) → All (IsPortOf d) sorted → length (claims.lanes_of d.claims) ≡ n → All (λ p. flow_count (own_site p).lanes ≡ n) sorted
flows_counted d sorted n all count k p short = ap (λ (s : PortSite). length (claims.lanes_of s.claims)) (all k p short).1 ∙ count
