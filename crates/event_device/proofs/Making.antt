-- The ports are made one after the other.
use Rattle.std.proofs.Common.{◌≡◌, ℕ, ◌+◌, ◌-◌, ◌<◌, ◌∙◌, Some, List, [], ◌∷◌, ◌++◌, length, get_or, map, slice_get, refl, sym, ap, subst, arith, append_assoc}
use Rattle.std.specs.Arc.{arc_value}
use Rattle.std.specs.List.{All, range_with_len}
use Rattle.std.proofs.lemmas.List.{get_or-map, length-append, length-map, map-append}
use Rattle.std.proofs.lemmas.List.Elements.{All-push}
use Rattle.std.proofs.lemmas.List.FromFn.{length-map-range_with_len, map-range_with_len_more}
use Rattle.std.proofs.lemmas.Option.{get_or_from_slice_get, slice_get_within}
use Rattle.lists.proofs.Lists.{All-slice_get}
use Rattle.lists.proofs.Ranges.{mapped_at}
use Rattle.evt_types.specs.Plan.{Plan, depth_of, lanes_of}
use Rattle.evt_types.proofs.FlowLanes.{lanes_are, port_is_lane}
use Rattle.flow_claims.specs.Claims as claims
use Rattle.flow_claims.specs.Laws.{IsUnused}
use Rattle.lane_rings.specs.Identity.{LaneId, far_id}
use Rattle.lane_rings.specs.declared.far.Far.{Far}
use Rattle.event_ports.specs.declared.port.Port.{Port}
use Rattle.event_device.specs.Device.{Device, IsDevice, depth_in, port_site, site_of}
use Rattle.event_device.specs.Prepared.{AreNewPorts, FitsPlan, IsEmptyPort, IsNewPort, IsUncounted, IsUndrawn, device_by}
use Rattle.event_device.specs.Seats.{AreSeats, claim_parts, credit_parts}
use Rattle.event_device.specs.declared.shared.Seats.{Seats}
use Rattle.event_device.specs.declared.shared.Shared.{Shared}

-- Of the ends of the ports' own lanes some are done: their ports were made, with one part of each seat a port.
pub record IsMaking (p : Plan) (shared : Shared) (owns done rest : List Far) (ports : List Port) (seats : Seats) : Type 0 where
  pub owns_are : owns ≡ done ++ rest
  pub made : AreNewPorts (device_by p shared owns) (length done) ports
  pub left : AreSeats shared seats (64 - length done) (64 - length done)

-- ---- one turn

lane_at : (done rest : List Far) (own : Far) (flows : List LaneId) → slice_get (map far_id (done ++ own ∷ rest) ++ flows) (length done) ≡ Some (far_id own)
lane_at [] rest own flows = refl
lane_at (x ∷ done) rest own flows = lane_at done rest own flows

end_at : (done rest : List Far) (own : Far) → slice_get (done ++ own ∷ rest) (length done) ≡ Some own
end_at [] rest own = refl
end_at (x ∷ done) rest own = end_at done rest own

-- the depth of a lane of the device
pub depth_at : (d : Device) (n : ℕ) (lane : LaneId) → IsDevice d → n < lanes_of d.plan → slice_get d.lanes n ≡ Some lane → lane.depth ≡ depth_of d.plan n
depth_at d n lane fits there at =
    let short = slice_get_within d.lanes n lane at in
    ap depth_in (sym (get_or_from_slice_get d.lanes n lane lane at)) ∙ sym (get_or-map depth_in d.lanes n lane 0 short)
    ∙ ap (λ depths. get_or depths n 0) fits.depths ∙ mapped_at (depth_of d.plan) (lanes_of d.plan) n 0 there

-- what a turn's port is made with
pub record Turn (p : Plan) (shared : Shared) (owns : List Far) (number : ℕ) (own : Far) : Type 0 where
  pub there : number < length p.ports
  pub fits : FitsPlan p shared
  pub depth : (far_id own).depth ≡ depth_of p number
  pub unused : IsUnused own
  pub lane : slice_get (device_by p shared owns).lanes number ≡ Some (far_id own)

pub fits_plan : (p : Plan) (shared : Shared) (owns : List Far) → IsDevice (device_by p shared owns) → length owns ≡ length p.ports → FitsPlan p shared
fits_plan p shared owns fits same = record {
  limit = fits.limit;
  flows =
      let flows = claims.lanes_of (arc_value shared.claims) in
      let all : length (map far_id owns ++ map far_id flows) ≡ lanes_of p =
      sym (length-map (map far_id owns ++ map far_id flows) depth_in) ∙ ap (λ (depths : List ℕ). length depths) fits.depths ∙ length-map-range_with_len (depth_of p) 0 (lanes_of p) in
      omega (arith, all, length-append (map far_id owns) (map far_id flows), length-map owns far_id, length-map flows far_id, lanes_are p);
}

pub turn : (p : Plan) (shared : Shared) (owns done rest : List Far) (own : Far) (number : ℕ) → IsDevice (device_by p shared owns)
    → length owns ≡ length p.ports → All IsUnused owns → owns ≡ done ++ own ∷ rest → number ≡ length done → Turn p shared owns number own
turn p shared owns done rest own number fits same unused is at =
    let d = device_by p shared owns in
    let flows = map far_id (claims.lanes_of (arc_value shared.claims)) in
    let count = ap (λ (ends : List Far). length ends) is ∙ length-append done (own ∷ rest) in
    let there : number < length p.ports = omega (arith, count) in
    let Lane : List Far → Type 0 = λ ends. slice_get (map far_id ends ++ flows) (length done) ≡ Some (far_id own) in
    let lane : slice_get d.lanes number ≡ Some (far_id own) = ap (slice_get d.lanes) at ∙ subst Lane (sym is) (lane_at done rest own flows) in
    record {
      there = there;
      fits = fits_plan p shared owns fits same;
      depth = depth_at d number (far_id own) fits (port_is_lane p number there) lane;
      unused = All-slice_get IsUnused owns (length done) own unused (ap (λ ends. slice_get ends (length done)) is ∙ end_at done rest own);
      lane = lane;
    }

-- how many were made
pub made_count : (d : Device) (n : ℕ) (ports : List Port) → AreNewPorts d n ports → length ports ≡ n
made_count d n ports are = sym (length-map ports site_of) ∙ ap (λ (sites : List _). length sites) are.sites ∙ length-map-range_with_len (port_site d) 0 n

-- where an end is left, fewer were made than there are ends
pub made_fewer : (p : Plan) (shared : Shared) (owns done left rest : List Far) (own : Far) (ports : List Port) (seats : Seats) → IsMaking p shared owns done left ports seats → left ≡ own ∷ rest
    → length ports < length owns
made_fewer p shared owns done left rest own ports seats so_far is =
    omega (arith, ap length so_far.owns_are, length-append done left, ap length is, made_count (device_by p shared owns) (length done) ports so_far.made)

-- the turn of the next end
pub turn_now : (p : Plan) (shared : Shared) (owns done left rest : List Far) (own : Far) (ports : List Port) (seats : Seats) (number : ℕ)
    → IsDevice (device_by p shared owns) → length owns ≡ length p.ports → All IsUnused owns → IsMaking p shared owns done left ports seats
    → left ≡ own ∷ rest → number ≡ length ports → Turn p shared owns number own
turn_now p shared owns done left rest own ports seats number fits same unused so_far is at =
    turn p shared owns done rest own number fits same unused (so_far.owns_are ∙ ap (λ ends. done ++ ends) is)
    (at ∙ made_count (device_by p shared owns) (length done) ports so_far.made)

-- ---- one port more

more_ports : (d : Device) (n m : ℕ) (ports : List Port) (port : Port) → AreNewPorts d n ports → IsNewPort d n port → m ≡ n + 1 → AreNewPorts d m (ports ++ port ∷ [])
more_ports d n m ports port so_far one next = record {
  sites =
      map-append site_of ports (port ∷ []) ∙ ap (λ sites. sites ++ site_of port ∷ []) so_far.sites ∙ ap (λ site. map (port_site d) (range_with_len 0 n) ++ site ∷ []) one.site
      ∙ sym (map-range_with_len_more (port_site d) 0 n n (omega arith)) ∙ ap (λ k. map (port_site d) (range_with_len 0 k)) (sym next);
  empty = All-push IsEmptyPort ports port so_far.empty one.empty;
  undrawn = All-push IsUndrawn ports port so_far.undrawn one.undrawn;
  uncounted = All-push IsUncounted ports port so_far.uncounted one.uncounted;
}

pub making_more : (p : Plan) (shared : Shared) (owns done rest : List Far) (own : Far) (left : List Far) (ports ports_after : List Port) (port : Port) (seats seats_after : Seats)
    (number : ℕ) → IsMaking p shared owns done left ports seats → left ≡ own ∷ rest → number ≡ length ports → IsNewPort (device_by p shared owns) number port
    → ports_after ≡ ports ++ port ∷ [] → AreSeats shared seats_after (credit_parts seats.credit - 1) (claim_parts seats.claim - 1)
    → IsMaking p shared owns (done ++ own ∷ []) rest ports_after seats_after
making_more p shared owns done rest own left ports ports_after port seats seats_after number so_far is at one more seats_left =
    let d = device_by p shared owns in
    let next : length (done ++ own ∷ []) ≡ length done + 1 = length-append done (own ∷ []) in
    let New : ℕ → Type 0 = λ n. IsNewPort d n port in
    let All' : List Port → Type 0 = λ ps. AreNewPorts d (length (done ++ own ∷ [])) ps in
    record {
      owns_are = so_far.owns_are ∙ ap (λ ends. done ++ ends) is ∙ sym (append_assoc done (own ∷ []) rest);
      made = subst All' (sym more) (more_ports d (length done) (length (done ++ own ∷ [])) ports port so_far.made (subst New (at ∙ made_count d (length done) ports so_far.made) one) next);
      left =
          record {
            unused_credit = seats_left.unused_credit;
            unused_claim = seats_left.unused_claim;
            credits_are = omega (arith, next, seats_left.credits_are, so_far.left.credits_are);
            claims_are = omega (arith, next, seats_left.claims_are, so_far.left.claims_are);
          };
    }
