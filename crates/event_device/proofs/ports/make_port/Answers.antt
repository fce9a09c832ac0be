-- The parts of a port fit together, and the port is the device's of its number.
use Rattle.std.proofs.Common.{◌≡◌, ◌∙◌, ◌<◌, length, ℕ, List, sym, ap, subst, refl, arith}
use Rattle.std.specs.List.{All}
use Rattle.credit_pool.specs.Pool as credits
use Rattle.credit_pool.specs.declared.pool.Credits.{Credits}
use Rattle.evt_types.specs.Plan.{Plan, PortPlan, flow_lanes}
use Rattle.evt_types.specs.declared.flows.FlowLane.{FlowLane}
use Rattle.evt_types.specs.declared.draft.QueueDraft.{QueueDraft}
use Rattle.evt_types.proofs.FlowLanes.{depth_of_port, port_is_lane}
use Rattle.flow_claims.specs.Claims.{IsSeatOf, lanes_of}
use Rattle.flow_claims.specs.declared.claims.Claims.{Claims}
use Rattle.event_device.specs.Prepared.{device_with}
use Rattle.event_device.proofs.Sites.{links_there, port_shown, quantum_fits, site_is}
use Rattle.event_device.proofs.ports.make_port.Goals as goal

pub depth_of-requires : goal.depth_of-requires
depth_of-requires c = port_is_lane c.args.shape.now c.args.number c.requires.number

pub new-requires-clause-fit : goal.new-requires-clause-fit
new-requires-clause-fit c =
    let p : Plan = c.args.shape.now in
    let n : ℕ = c.args.number in
    let seats = c.requires.seats.0 in
    let pool = c.in_ok-pool.ensures.cases in
    let claims = c.in_ok-claims.ensures.cases in
    let OfPool : Credits → Type 0 = λ pool. credits.IsSeatOf pool c.args.seats.credit in
    let OfClaims : Claims → Type 0 = λ claims. IsSeatOf claims c.args.seats.claim in
    let fits = quantum_fits p n c.requires.limits c.requires.number in
    let few = c.requires.limits.port_count.1 in
    let there = c.requires.number in
    let flows : length c.flows.result.now ≡ length (flow_lanes p) = ap (λ (lanes : List FlowLane). length lanes) c.flows.ensures.value in
    let links = c.in_ok-links.ensures.items ∙ c.flow_links.ensures in
    let Below : ℕ → List ℕ → Type 0 = λ count lanes. All (λ lane. lane < count) lanes in
    let shown = port_shown p c.ports.result.now n c.index-ports-number.result c.ports.ensures c.requires.number c.index-ports-number.is in
    let threshold = ap (λ (port : PortPlan). port.threshold) shown in
    let limit = ap (λ pool. credits.limit_of pool) pool in
    record {
      credit = subst OfPool (sym pool) seats.unused_credit.of_pool;
      claim = subst OfClaims (sym claims) seats.unused_claim.of_claims;
      port = (c.requires.seats.1, omega arith);
      flows = flows ∙ sym c.requires.shared.flows ∙ ap (λ claims. length (lanes_of claims)) (sym claims);
      links_exist = subst (λ count. Below count c.in_ok-links.links.items) (sym flows) (subst (Below (length (flow_lanes p))) (sym links) (links_there p _));
      depth = (c.depth_of.ensures.value ∙ sym c.requires.own.0, c.depth_of.ensures.range.1);
      quantum = (omega arith, omega arith, omega (arith, limit, c.requires.shared.limit));
    }

pub returns-in-Ok : goal.returns-in-Ok
returns-in-Ok c = λ lanes lane.
    let p : Plan = c.args.shape.now in
    let n : ℕ = c.args.number in
    let seats = c.requires.seats.0 in
    let shown = port_shown p c.ports.result.now n c.index-ports-number.result c.ports.ensures c.requires.number c.index-ports-number.is in
    record {
      site = site_is (device_with p c.args.shared.now lanes) n c.in-Ok.port _ _ c.in-Ok.ensures.site c.in-Ok.ensures.credit (record {
        pool = c.in_ok-pool.ensures.cases;
        claims = c.in_ok-claims.ensures.cases;
        lane = lane;
        links = c.in_ok-links.ensures.items ∙ c.flow_links.ensures;
        number = refl;
        depth = c.depth_of.ensures.value ∙ depth_of_port p n c.requires.number;
        queues = ap (λ (queues : List QueueDraft). length queues) c.queues.ensures.value;
        implicit = sym (ap (λ (port : PortPlan). port.implicit) shown);
        quantum = c.from.ensures ∙ c.quantum.ensures;
        threshold = c.from-2.ensures ∙ sym (ap (λ (port : PortPlan). port.threshold) shown);
        credit_parts = seats.credits_are;
        claim_parts = seats.claims_are;
      });
      empty = c.in-Ok.ensures.empty;
      undrawn = (ap (λ account. account.drawn) c.in-Ok.ensures.credit ∙ seats.unused_credit.drawn, ap (λ account. account.returned) c.in-Ok.ensures.credit ∙ seats.unused_credit.returned);
      uncounted = c.in-Ok.ensures.counts;
    }
