-- What never changes of a port, and of the configuration that fits it.
use Rattle.std.proofs.Common.{◌≡◌, ℕ, ◌+◌, ◌<◌, ◌≤◌, ◌∙◌, Some, List, [], length, get_or, map, slice_get, slice_index_or, sym, ap, arith, false}
use Rattle.std.specs.List.{All, range_with_len}
use Rattle.std.proofs.lemmas.List.FromFn.{get_or-range_with_len, length-range_with_len}
use Rattle.std.proofs.lemmas.List.Elements.{All-filter}
use Rattle.credit_pool.specs.declared.account.Account.{Account}
use Rattle.evt_types.specs.Fault.{IsWithinLimits}
use Rattle.evt_types.specs.Plan.{Plan, flow_lanes, flow_links, PortPlan, is_linked_flow, linked_places, port_of, port_plan}
use Rattle.evt_types.specs.declared.draft.PortDraft.{PortDraft}
use Rattle.evt_types.proofs.Plans.{port_read}
use Rattle.std.proofs.lemmas.List.{length-map}
use Rattle.event_ports.specs.Ports.{DeskSite, account_of, own_site}
use Rattle.event_ports.specs.declared.port.Port.{Port}
use Rattle.event_device.specs.Device.{Device, PortSite, port_site, site_of}

-- the site of a port that has this one in its desk, and so many parts of the credits
abbrev pub site_at : DeskSite → ℕ → PortSite
site_at site parts =
    record {
      pool = site.pool;
      claims = site.lanes.flows.claims;
      lane = Some site.lanes.own;
      links = site.lanes.flows.links;
      number = site.number;
      depth = site.lanes.depth;
      queues = site.queues;
      implicit = site.implicit;
      quantum = site.quantum;
      threshold = site.threshold;
      credit_parts = parts;
      claim_parts = site.lanes.flows.parts;
    }

-- site and account are those of the device's port of the number
pub record Agrees (d : Device) (n : ℕ) (site : DeskSite) (account : Account) : Type 0 where
  pub pool : site.pool ≡ d.pool
  pub claims : site.lanes.flows.claims ≡ d.claims
  pub lane : slice_get d.lanes n ≡ Some site.lanes.own
  pub links : site.lanes.flows.links ≡ flow_links d.plan n
  pub number : site.number ≡ n
  pub depth : site.lanes.depth ≡ (port_of d.plan n).depth
  pub queues : site.queues ≡ length d.plan.queues
  pub implicit : site.implicit ≡ (port_of d.plan n).implicit
  pub quantum : site.quantum ≡ d.plan.quantum
  pub threshold : site.threshold ≡ (port_of d.plan n).threshold
  pub credit_parts : account.parts ≡ 1
  pub claim_parts : site.lanes.flows.parts ≡ 1

agreed : (d : Device) (n : ℕ) (site : DeskSite) (account : Account) → Agrees d n site account → site_at site account.parts ≡ port_site d n
agreed d n site account e =
    let lane = sym e.lane in
    λ i. record {
      pool = e.pool i;
      claims = e.claims i;
      lane = lane i;
      links = e.links i;
      number = e.number i;
      depth = e.depth i;
      queues = e.queues i;
      implicit = e.implicit i;
      quantum = e.quantum i;
      threshold = e.threshold i;
      credit_parts = e.credit_parts i;
      claim_parts = e.claim_parts i;
    }

pub site_is : (d : Device) (n : ℕ) (port : Port) (site : DeskSite) (account : Account) → own_site port ≡ site → account_of port ≡ account
    → Agrees d n site account → site_of port ≡ port_site d n
site_is d n port site account same known e = (λ i. site_at (same i) (known i).parts) ∙ agreed d n site account e

-- ---- the configuration

-- a quantum fits under each port's threshold, and that within the limit
pub quantum_fits : (p : Plan) (n : ℕ) → IsWithinLimits p → n < length p.ports
    → (0 < p.quantum) × (p.quantum ≤ (port_of p n).threshold) × ((port_of p n).threshold ≤ p.limit)
quantum_fits p n w there =
    let between = w.thresholds n (record { threshold = 0; depth = 0; replies = 0; implicit = false; links = [] }) there in
    let low : 1 ≤ p.quantum = w.quantum.0 in
    (omega arith, between.0, between.1)

-- how many ports there are
pub count_shown : (p : Plan) (ports : List PortDraft) → map port_plan ports ≡ p.ports → length ports ≡ length p.ports
count_shown p ports is = sym (length-map ports port_plan) ∙ ap (λ (qs : List PortPlan). length qs) is

-- the port that was read
pub port_shown : (p : Plan) (ports : List PortDraft) (n : ℕ) (port : PortDraft) → map port_plan ports ≡ p.ports → n < length p.ports
    → port ≡ slice_index_or ports n port → port_of p n ≡ port_plan port
port_shown p ports n port is there at =
    let same = count_shown p ports is in
    port_read p ports n port (sym is) (omega arith) at

below_bound : (n : ℕ) → All (λ k. k < n) (range_with_len 0 n)
below_bound n k d there =
    let short : k < n = omega (arith, length-range_with_len 0 n) in
    let is : get_or (range_with_len 0 n) k d ≡ 0 + k = get_or-range_with_len 0 n k d short in
    omega arith

-- each link is a flow lane
pub links_there : (p : Plan) (n : ℕ) → All (λ lane. lane < length (flow_lanes p)) (flow_links p n)
unfolding linked_places
links_there p n =
    All-filter (λ site. is_linked_flow (port_of p n).links (slice_get (flow_lanes p) site)) (λ lane. lane < length (flow_lanes p))
    (range_with_len 0 (length (flow_lanes p))) (below_bound (length (flow_lanes p)))
