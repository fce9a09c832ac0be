-- The lanes that were made are those of a device.
use Rattle.std.proofs.Common.{◌≡◌, ℕ, zero, suc, ◌+◌, ◌-◌, ◌≤◌, ◌∙◌, List, [], ◌∷◌, ◌++◌, drop, length, map, sym, ap, subst, arith}
use Rattle.std.specs.Arc.{arc_value}
use Rattle.std.specs.List.{All, range_with_len}
use Rattle.std.proofs.lemmas.List.{length-map, map-append}
use Rattle.std.proofs.lemmas.List.FromFn.{length-map-range_with_len}
use Rattle.std.proofs.Math.Seq.{drop-append_seam}
use Rattle.credit_pool.specs.Pool.{limit_of}
use Rattle.evt_types.specs.Plan.{Plan, depth_of, lanes_of, replies_of}
use Rattle.flow_claims.specs.Claims as claims
use Rattle.lane_rings.specs.Identity.{LaneId, far_id, near_id}
use Rattle.lane_rings.specs.declared.far.Far.{Far}
use Rattle.lane_rings.specs.declared.near.Near.{Near}
use Rattle.event_device.specs.Device.{IsDevice, depth_in, room_in}
use Rattle.event_device.specs.Ends.{AreAdded, IsUnusedNear}
use Rattle.evt_types.proofs.FlowLanes.{lanes_are}
use Rattle.flow_claims.specs.Laws.{IsUnused}
use Rattle.std.proofs.lemmas.List.Elements.{All-nil}
use Rattle.event_device.specs.Prepared.{device_by, device_with}
use Rattle.event_device.specs.Device.{Device}
use Rattle.event_device.specs.declared.shared.Shared.{Shared}

-- numbers in two parts
two_parts : {X : Type 0} (f : ℕ → X) (a n m : ℕ) → map f (range_with_len a n) ++ map f (range_with_len (a + n) m) ≡ map f (range_with_len a (n + m))
two_parts f a zero m =
    let first : a + 0 ≡ a = omega arith in
    let all : m ≡ 0 + m = omega arith in
    (λ i. map f (range_with_len (first i) (all i)))
two_parts f a (suc n) m =
    let first : a + suc n ≡ a + 1 + n = omega arith in
    let all : suc (n + m) ≡ suc n + m = omega arith in
    ap (λ k. f a ∷ (map f (range_with_len (a + 1) n) ++ map f (range_with_len k m))) first ∙ ap (λ xs. f a ∷ xs) (two_parts f (a + 1) n m)
    ∙ ap (λ k. map f (range_with_len a k)) all

-- the lanes of a configuration: the ports' own, and then the flow lanes
pub record AreAllLanes (p : Plan) (owns ends : List Far) (nears : List Near) : Type 0 where
  pub lanes : map near_id nears ≡ map far_id owns ++ map far_id ends
  pub unused : All IsUnusedNear nears
  pub own_unused : All IsUnused owns
  pub own_count : length owns ≡ length p.ports
  pub depths : map depth_in (map far_id owns ++ map far_id ends) ≡ map (depth_of p) (range_with_len 0 (lanes_of p))
  pub rooms : map room_in (map far_id owns ++ map far_id ends) ≡ map (replies_of p) (range_with_len 0 (lanes_of p))

-- a list made of the numbers of all lanes
all_numbers : (f : LaneId → ℕ) (g : ℕ → ℕ) (p : Plan) (owns ends : List Far) (own all : ℕ) → own ≡ length p.ports → all ≡ lanes_of p → own ≤ all
    → map f (map far_id owns) ≡ map g (range_with_len 0 (own - 0)) → map f (map far_id ends) ≡ map g (range_with_len own (all - own))
    → map f (map far_id owns ++ map far_id ends) ≡ map g (range_with_len 0 (lanes_of p))
all_numbers f g p owns ends own all own_is all_is le first then =
    let start : own ≡ 0 + own = omega arith in
    let none : own - 0 ≡ own = omega arith in
    let count : own + (all - own) ≡ lanes_of p = omega arith in
    map-append f (map far_id owns) (map far_id ends) ∙ (λ i. first i ++ then i) ∙ (λ i. map g (range_with_len 0 (none i)) ++ map g (range_with_len (start i) (all - own)))
    ∙ two_parts g 0 own (all - own) ∙ ap (λ n. map g (range_with_len 0 n)) count

pub all_lanes : (p : Plan) (owns ends : List Far) (none before nears : List Near) (own all : ℕ) → own ≡ length p.ports → all ≡ lanes_of p → none ≡ []
    → AreAdded p 0 (own - 0) none before owns → AreAdded p own (all - own) before nears ends → AreAllLanes p owns ends nears
all_lanes p owns ends none before nears own all own_is all_is empty first then =
    let le : own ≤ all = omega (arith, lanes_are p) in
    record {
      lanes = then.lanes ∙ ap (λ ids. ids ++ map far_id ends) (first.lanes ∙ ap (λ (ns : List Near). map near_id ns ++ map far_id owns) empty);
      unused = then.unused_near (first.unused_near (subst (All IsUnusedNear) (sym empty) (All-nil IsUnusedNear)));
      own_unused = first.unused;
      own_count =
          let count = ap (λ (depths : List ℕ). length depths) first.depths ∙ length-map-range_with_len (depth_of p) 0 (own - 0) in
          omega (arith, own_is, count, length-map (map far_id owns) depth_in, length-map owns far_id);
      depths = all_numbers depth_in (depth_of p) p owns ends own all own_is all_is le first.depths then.depths;
      rooms = all_numbers room_in (replies_of p) p owns ends own all own_is all_is le first.rooms then.rooms;
    }

-- the shared parts with these lanes are a device
pub device_fits : (p : Plan) (shared : Shared) (owns ends : List Far) (nears : List Near) → AreAllLanes p owns ends nears
    → limit_of (arc_value shared.pool) ≡ p.limit → claims.lanes_of (arc_value shared.claims) ≡ ends → IsDevice (device_by p shared owns)
device_fits p shared owns ends nears all limit flows =
    let Depths : List Far → Type 0 = λ fars. map depth_in (map far_id owns ++ map far_id fars) ≡ map (depth_of p) (range_with_len 0 (lanes_of p)) in
    let Rooms : List Far → Type 0 = λ fars. map room_in (map far_id owns ++ map far_id fars) ≡ map (replies_of p) (range_with_len 0 (lanes_of p)) in
    let count : length (map far_id owns) ≡ length p.ports = length-map owns far_id ∙ all.own_count in
    let own = map far_id owns in
    let flow = map far_id (claims.lanes_of (arc_value shared.claims)) in
    record {
      limit = limit;
      depths = subst Depths (sym flows) all.depths;
      rooms = subst Rooms (sym flows) all.rooms;
      flows = sym (drop-append_seam own flow) ∙ ap (λ n. drop n (own ++ flow)) count;
    }

-- what holds of the device of the holders' ends holds of that of the scheduler's
pub by_nears : (P : Device → Type 0) (p : Plan) (shared : Shared) (owns ends : List Far) (nears : List Near) → AreAllLanes p owns ends nears
    → claims.lanes_of (arc_value shared.claims) ≡ ends → P (device_by p shared owns) → P (device_with p shared (map near_id nears))
by_nears P p shared owns ends nears all flows holds =
    let At : List LaneId → Type 0 = λ lanes. P (device_with p shared lanes) in
    subst At (sym (all.lanes ∙ ap (λ fars. map far_id owns ++ map far_id fars) (sym flows))) holds
