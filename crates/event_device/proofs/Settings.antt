-- What a device that was taken apart has.
use Rattle.std.proofs.Common.{◌≡◌, ℕ, ◌*◌, ◌≤◌, List, [], ◌∷◌, ◌++◌, drop, take, length, take-append-drop, map, All, refl, sym, ap, ◌∙◌, arith}
use Rattle.std.specs.Prelude.{sum_by}
use Rattle.std.specs.List.{range_with_len}
use Rattle.std.proofs.lemmas.List.{length-map, map-append}
use Rattle.std.proofs.lemmas.List.Sums.{sum_by-le}
use Rattle.lists.proofs.Sums.{sum_of_map}
use Rattle.evt_types.specs.Fault.{IsWithinLimits}
use Rattle.evt_types.specs.Plan.{flow_lanes}
use Rattle.flow_claims.specs.Claims as claims
use Rattle.lane_rings.specs.Identity.{far_id}
use Rattle.lane_rings.specs.declared.far.Far.{Far}
use Rattle.event_ports.specs.Ports.{hand, own_site}
use Rattle.event_ports.specs.Stop.{AreLeft}
use Rattle.event_ports.specs.declared.rest.Rest.{Rest}
use Rattle.event_ports.specs.declared.port.Port.{Port}
use Rattle.event_device.specs.Apart.{own_end}
use Rattle.event_device.specs.Device.{Device, IsDevice, IsPortOf, number_of}
use Rattle.event_device.proofs.Members.{depths_small, flow_lane_count, own_lanes}

pub left_count : (sorted : List Port) (rests : List Rest) → AreLeft sorted rests → length rests ≡ length sorted
left_count sorted rests left =
    omega (arith, ap length left.numbers, length-map rests (λ (r : Rest). r.number), length-map sorted (λ (p : Port). (own_site p).number))

-- no more is held than there is room for
pub few_held : (d : Device) (sorted : List Port) (rests : List Rest) → IsWithinLimits d.plan → All (IsPortOf d) sorted → AreLeft sorted rests → sum_by (λ (r : Rest). length r.held.items) rests ≤ 64 * length sorted
few_held d sorted rests within all left =
    let held : Port → ℕ = λ p. length (hand p).holding in
    let small = depths_small d sorted within all in
    let few : sum_by held sorted ≤ length sorted * 64 =
    sum_by-le held 64 sorted (λ k p short. omega (arith, left.within k p short, small k p short)) in
    let same : sum_by (λ (r : Rest). length r.held.items) rests ≡ sum_by held sorted =
    sym (sum_of_map length (λ (r : Rest). r.held.items) rests) ∙ (ap (sum_by length) left.held ∙ sum_of_map length (λ (p : Port). (hand p).holding) sorted) in
    omega (arith, few, same)

pub map_map : {X Y Z : Type 0} (g : Y → Z) (f : X → Y) (xs : List X) → map g (map f xs) ≡ map (λ x. g (f x)) xs
map_map g f [] = refl
map_map g f (x ∷ xs) = ap (λ ys. g (f x) ∷ ys) (map_map g f xs)

-- the holders' ends of all lanes are those of the device's
pub all_ends : (d : Device) (sorted : List Port) (rests : List Rest) (ends : List Far) → IsDevice d → All (IsPortOf d) sorted → map number_of sorted ≡ range_with_len 0 (length d.plan.ports) → AreLeft sorted rests
    → map far_id ends ≡ map far_id (claims.lanes_of d.claims) → map far_id (map own_end rests ++ ends) ≡ d.lanes
all_ends d sorted rests ends fits all numbers left closed =
    let n = length d.plan.ports in
    let own_ids : map far_id (map own_end rests) ≡ take n d.lanes = map_map far_id own_end rests ∙ (left.lanes ∙ own_lanes d sorted all numbers) in
    let other_ids : map far_id ends ≡ drop n d.lanes = closed ∙ fits.flows in
    map-append far_id (map own_end rests) ends ∙ (ap (λ ids. ids ++ map far_id ends) own_ids ∙ (ap (λ ids. take n d.lanes ++ ids) other_ids ∙ take-append-drop n d.lanes))

-- and as many as there are lanes
pub ends_count : (d : Device) (ends : List Far) → IsDevice d → map far_id ends ≡ map far_id (claims.lanes_of d.claims) → length ends ≡ length (flow_lanes d.plan)
ends_count d ends fits closed =
    omega (arith, ap length closed, length-map ends far_id, length-map (claims.lanes_of d.claims) far_id, flow_lane_count d fits)
