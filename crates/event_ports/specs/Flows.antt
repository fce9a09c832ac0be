-- What a clause sees of a port's flow lanes.
use Rattle.std.specs.Prelude.{ℕ, List}
use Rattle.std.specs.Arc.{arc_value}
use Rattle.flow_claims.specs.declared.claims.Claims.{Claims}
use Rattle.flow_claims.specs.Claims.{seating, port_of}
use Rattle.lane_rings.specs.declared.hints.LaneSet.{LaneSet}
use Rattle.event_ports.specs.declared.flows.FlowLanes.{FlowLanes}
use Rattle.event_ports.specs.Holds.{Hands}

-- the set of the links
abbrev pub linked_of : FlowLanes → LaneSet
linked_of f = f.linked

abbrev pub hands_of : FlowLanes → Hands
hands_of f = record { view = seating f.seat; stints = f.stints.items }

-- what never changes of them: the claims, the port and its links, and the parts of the port's seat
pub record FlowSite : Type 0 where
  pub claims : Claims
  pub port : ℕ
  pub links : List ℕ
  pub parts : ℕ

abbrev pub flow_site : FlowLanes → FlowSite
flow_site f = record { claims = arc_value f.claims; port = port_of f.seat; links = f.links.items; parts = (seating f.seat).parts }
