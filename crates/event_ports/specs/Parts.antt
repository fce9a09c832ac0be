-- The parts of which a port is made.
use Rattle.std.specs.Prelude.{◌≡◌, ◌<◌, ◌≤◌, false, [], length, All}
use Rattle.std.specs.Arc.{arc_value}
use Rattle.credit_pool.specs.Pool as credits
use Rattle.lane_rings.specs.Identity.{far_id}
use Rattle.flow_claims.specs.Claims.{seating, port_of, lanes_of, IsSeatOf}
use Rattle.flow_claims.specs.Laws.{IsUnused}
use Rattle.flow_claims.specs.Seats.{HoldsNone}
use Rattle.event_ports.specs.declared.parts.Parts.{Parts}
use Rattle.event_ports.specs.Ports.{DeskSite}

-- The seats belong to the pool and to the claims, the claim seat to the port of that number; the links are flow lanes that are there;
-- a quantum fits under the threshold, and that within the limit; a dequeue hands out at most 64 deliveries.
pub record FitTogether (p : Parts) : Type 0 where
  pub credit : credits.IsSeatOf (arc_value p.pool) p.credit
  pub claim : IsSeatOf (arc_value p.claims) p.claim
  pub port : (port_of p.claim ≡ p.number) × (p.number < 254)
  pub flows : p.flows ≡ length (lanes_of (arc_value p.claims))
  pub links_exist : All (λ lane. lane < p.flows) p.links.items
  pub depth : (p.depth ≡ (far_id p.own).depth) × (p.depth ≤ 64)
  pub quantum : (0 < p.quantum) × (p.quantum ≤ p.threshold) × (p.threshold ≤ credits.limit_of (arc_value p.pool))

-- nothing was drawn, claimed, received or answered, and the seat didn't shut the device
pub record AreFresh (p : Parts) : Type 0 where
  pub drawn : (credits.account p.credit).drawn ≡ 0
  pub returned : (credits.account p.credit).returned ≡ 0
  pub unset : (credits.account p.credit).set_shut ≡ false
  pub none_open : HoldsNone (seating p.claim)
  pub none_finished : (seating p.claim).finished ≡ []
  pub own : IsUnused p.own

-- what never changes of the port that is made of them
abbrev pub own_site_by : Parts → DeskSite
own_site_by p =
    record {
      pool = arc_value p.pool;
      lanes = record {
        own = far_id p.own;
        flows = record { claims = arc_value p.claims; port = port_of p.claim; links = p.links.items; parts = (seating p.claim).parts };
        depth = p.depth;
      };
      number = p.number;
      queues = p.queues;
      implicit = p.implicit;
      quantum = p.quantum;
      threshold = p.threshold;
    }
