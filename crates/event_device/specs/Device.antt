-- What the parts of one device have in common: by one equation each a port, a scheduler and a control are known to be of it.
use Rattle.std.specs.Prelude.{ℕ, ◌≡◌, ◌-◌, ◌<◌, Bool, List, length, map, drop, slice_get, Option, Some}
use Rattle.evt_types.specs.Plan.{Plan, depth_of, flow_links, lanes, port_of, replies_of}
use Rattle.credit_pool.specs.Pool.{limit_of}
use Rattle.credit_pool.specs.declared.pool.Credits.{Credits}
use Rattle.flow_claims.specs.Claims.{lanes_of}
use Rattle.flow_claims.specs.declared.claims.Claims.{Claims}
use Rattle.lane_rings.specs.Identity.{LaneId, far_id}
use Rattle.event_ports.specs.Ports.{account_of, own_site}
use Rattle.event_ports.specs.declared.port.Port.{Port}
use Rattle.event_scheduler.specs.Scheduler.{Sight}

-- A device: its configuration, its credits, the claims of its flow lanes, and its lanes by number, first the ports' own, then the flow
-- lanes.
pub record Device : Type 0 where
  pub plan : Plan
  pub pool : Credits
  pub claims : Claims
  pub lanes : List LaneId

-- how many deliveries, and how many replies, the lane's rings have room for
abbrev pub depth_in : LaneId → ℕ
depth_in lane = lane.depth

abbrev pub room_in : LaneId → ℕ
room_in lane = lane.room

-- The parts fit the configuration: as many credits as its limit, each lane as deep as it says, and the flow lanes are the lanes after
-- the ports' own.
pub record IsDevice (d : Device) : Type 0 where
  pub limit : limit_of d.pool ≡ d.plan.limit
  pub depths : map depth_in d.lanes ≡ map (depth_of d.plan) (lanes d.plan)
  pub rooms : map room_in d.lanes ≡ map (replies_of d.plan) (lanes d.plan)
  pub flows : map far_id (lanes_of d.claims) ≡ drop (length d.plan.ports) d.lanes

-- ---- ports

-- what never changes of a port; of the 64 parts of the credits and of the claims it has these
pub record PortSite : Type 0 where
  pub pool : Credits
  pub claims : Claims
  pub lane : Option LaneId
  pub links : List ℕ
  pub number : ℕ
  pub depth : ℕ
  pub queues : ℕ
  pub implicit : Bool
  pub quantum : ℕ
  pub threshold : ℕ
  pub credit_parts : ℕ
  pub claim_parts : ℕ

abbrev pub number_of : Port → ℕ
number_of p = (own_site p).number

abbrev pub site_of : Port → PortSite
site_of p =
    record {
      pool = (own_site p).pool;
      claims = (own_site p).lanes.flows.claims;
      lane = Some (own_site p).lanes.own;
      links = (own_site p).lanes.flows.links;
      number = (own_site p).number;
      depth = (own_site p).lanes.depth;
      queues = (own_site p).queues;
      implicit = (own_site p).implicit;
      quantum = (own_site p).quantum;
      threshold = (own_site p).threshold;
      credit_parts = (account_of p).parts;
      claim_parts = (own_site p).lanes.flows.parts;
    }

-- the device's port of a number
abbrev pub port_site : Device → ℕ → PortSite
port_site d n =
    record {
      pool = d.pool;
      claims = d.claims;
      lane = slice_get d.lanes n;
      links = flow_links d.plan n;
      number = n;
      depth = (port_of d.plan n).depth;
      queues = length d.plan.queues;
      implicit = (port_of d.plan n).implicit;
      quantum = d.plan.quantum;
      threshold = (port_of d.plan n).threshold;
      credit_parts = 1;
      claim_parts = 1;
    }

-- the port is the device's
abbrev pub IsPortOf : Device → Port → Type 0
IsPortOf d p = (number_of p < length d.plan.ports) × (site_of p ≡ port_site d (number_of p))

-- ---- the scheduler

pub record SchedulerSite : Type 0 where
  pub plan : Plan
  pub pool : Credits
  pub lanes : List LaneId
  pub parts : ℕ

abbrev pub scheduler_of : Sight → SchedulerSite
scheduler_of s = record { plan = s.core.shape; pool = s.site.pool; lanes = s.site.lanes; parts = s.account.parts }

abbrev pub scheduler_site : Device → SchedulerSite
scheduler_site d = record { plan = d.plan; pool = d.pool; lanes = d.lanes; parts = 1 }

-- ---- the control, which has all other parts

pub record ControlSite : Type 0 where
  pub pool : Credits
  pub claims : Claims
  pub credit_parts : ℕ
  pub claim_parts : ℕ

abbrev pub control_site : Device → ControlSite
control_site d = record { pool = d.pool; claims = d.claims; credit_parts = 63 - length d.plan.ports; claim_parts = 64 - length d.plan.ports }
