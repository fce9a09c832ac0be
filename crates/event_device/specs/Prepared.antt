-- What is made of a device before its scheduler.
use Rattle.std.specs.Prelude.{◌≡◌, ℕ, ◌-◌, List, ◌++◌, length, map, All}
use Rattle.std.specs.Arc.{arc_value}
use Rattle.std.specs.List.{range_with_len}
use Rattle.credit_pool.specs.Pool.{limit_of}
use Rattle.evt_types.specs.Plan.{Plan, flow_lanes}
use Rattle.flow_claims.specs.Claims.{lanes_of}
use Rattle.lane_rings.specs.Identity.{LaneId, far_id, near_id}
use Rattle.lane_rings.specs.declared.far.Far.{Far}
use Rattle.event_ports.specs.Counts.{no_counts}
use Rattle.event_ports.specs.Lanes.{IsEmptyHand}
use Rattle.event_ports.specs.Ports.{account_of, counts_of, hand, pocket_of}
use Rattle.event_ports.specs.declared.port.Port.{Port}
use Rattle.event_device.specs.Device.{Device, IsDevice, port_site, site_of}
use Rattle.event_device.specs.Ends.{IsUnusedNear}
use Rattle.event_device.specs.Seats.{AreSeats, IsUnusedCredit, credit_parts}
use Rattle.event_device.specs.declared.shared.Shared.{Shared}
use Rattle.event_device.specs.declared.start.Prepared.{Prepared}

-- the device of these parts, with these lanes
abbrev pub device_with : Plan → Shared → List LaneId → Device
device_with p shared lanes = record { plan = p; pool = arc_value shared.pool; claims = arc_value shared.claims; lanes = lanes }

-- that whose ports' own lanes have these ends
abbrev pub device_by : Plan → Shared → List Far → Device
device_by p shared owns = device_with p shared (map far_id owns ++ map far_id (lanes_of (arc_value shared.claims)))

-- the shared parts fit the configuration: as many credits as its limit, and as many claims as flow lanes
pub record FitsPlan (p : Plan) (shared : Shared) : Type 0 where
  pub limit : limit_of (arc_value shared.pool) ≡ p.limit
  pub flows : length (lanes_of (arc_value shared.claims)) ≡ length (flow_lanes p)

-- the port holds nothing and has no credit
abbrev pub IsEmptyPort : Port → Type 0
IsEmptyPort port = IsEmptyHand (hand port) × (pocket_of port ≡ 0)

-- it drew and returned no credit
abbrev pub IsUndrawn : Port → Type 0
IsUndrawn port = ((account_of port).drawn ≡ 0) × ((account_of port).returned ≡ 0)

-- it counted nothing
abbrev pub IsUncounted : Port → Type 0
IsUncounted port = counts_of port ≡ no_counts

-- the device's port of this number, just made
pub record IsNewPort (d : Device) (n : ℕ) (port : Port) : Type 0 where
  pub site : site_of port ≡ port_site d n
  pub empty : IsEmptyPort port
  pub undrawn : IsUndrawn port
  pub uncounted : IsUncounted port

-- the first of the device's ports, just made
pub record AreNewPorts (d : Device) (count : ℕ) (ports : List Port) : Type 0 where
  pub sites : map site_of ports ≡ map (port_site d) (range_with_len 0 count)
  pub empty : All IsEmptyPort ports
  pub undrawn : All IsUndrawn ports
  pub uncounted : All IsUncounted ports

-- the device to which these belong
abbrev pub device_in : Plan → Prepared → Device
device_in p made = device_with p made.shared (map near_id made.nears.items)

-- All of a device but its core: the scheduler has one part of the credits, and what the ports left of the other parts is the
-- control's.
pub record IsPrepared (p : Plan) (made : Prepared) : Type 0 where
  pub fits : IsDevice (device_in p made)
  pub ports : AreNewPorts (device_in p made) (length p.ports) made.ports.items
  pub pool : arc_value made.pool ≡ arc_value made.shared.pool
  pub seat : IsUnusedCredit (arc_value made.shared.pool) made.seat
  pub part : credit_parts made.seat ≡ 1
  pub nears : All IsUnusedNear made.nears.items
  pub seats : AreSeats made.shared made.seats (63 - length p.ports) (64 - length p.ports)
