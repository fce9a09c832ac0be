-- The flow lane from which the oldest that is held came.
use Rattle.std.proofs.Common.{◌≡◌, ◌≢◌, ℕ, ◌<◌, [], length, Some}
use Rattle.std.specs.Arc.{arc_value}
use Rattle.flow_claims.specs.Claims.{lanes_of}
use Rattle.event_ports.specs.declared.lane.Lane.TheVariants.{Flow}
use Rattle.event_ports.specs.declared.lanes.Lanes.{Lanes}
use Rattle.event_ports.specs.Flows.{hands_of}
use Rattle.event_ports.specs.Holds.{held_on}
use Rattle.event_ports.specs.Lanes.{first_lane, held_in, open_on}
use Rattle.event_ports.proofs.Orders.{first_open}
use Rattle.event_ports.proofs.Turns.{lane_there}

-- something of it is held
pub oldest_held : (a : Lanes) (lane : ℕ) → first_lane (held_in a.own a.order) ≡ Some (Flow lane) → held_on (hands_of a.flows) lane ≢ []
oldest_held a lane first = first_open (held_in a.own a.order) (Flow lane) (open_on a.own (hands_of a.flows)) first a.ordered

-- so it is there
pub oldest_there : (a : Lanes) (lane : ℕ) → first_lane (held_in a.own a.order) ≡ Some (Flow lane) → lane < length (lanes_of (arc_value a.flows.claims))
oldest_there a lane first = lane_there _ a.flows.seat _ _ lane a.flows.are (oldest_held a lane first)
