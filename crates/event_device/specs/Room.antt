-- Room for a stop: empty lists, each with room for what it is to hold.
use Rattle.std.specs.Prelude.{◌≡◌, ◌*◌, ◌≤◌, [], length, sum_by, vec_capacity}
use Rattle.event_answers.specs.declared.report.Report.{Report}
use Rattle.evt_types.specs.Plan.{flow_lanes, lanes_of, queues}
use Rattle.transcripts.specs.Standing.{View, places_at, waiting_at}
use Rattle.event_device.specs.declared.room.Room.{Room}
use Rattle.evt_types.specs.declared.event.TheConstants.{MAX_FORWARDS}

-- for what is left in a device with this core: of each lane 64 deliveries at most, and as many replies in its ring and out of it
-- and not taken; and as much as its port may hold
pub record HasRoomToList {X : Type 0} (v : View) (x : Report X) : Type 0 where
  pub waiting : (x.waiting.items ≡ []) × (sum_by (λ q. length (waiting_at v q)) (queues v.shape) ≤ vec_capacity x.waiting)
  pub kept : (x.kept.items ≡ []) × (MAX_FORWARDS * sum_by (λ q. length (places_at v q)) (queues v.shape) ≤ vec_capacity x.kept)
  pub undelivered : (x.undelivered.items ≡ []) × (64 * lanes_of v.shape ≤ vec_capacity x.undelivered)
  pub held : (x.held.items ≡ []) × (64 * length v.shape.ports ≤ vec_capacity x.held)
  pub untaken : (x.untaken.items ≡ []) × (128 * lanes_of v.shape ≤ vec_capacity x.untaken)
  pub pockets : (x.pockets.items ≡ []) × (length v.shape.ports ≤ vec_capacity x.pockets)

pub record HasRoom (v : View) (room : Room) : Type 0 where
  pub ports : (room.ports.items ≡ []) × (length v.shape.ports ≤ vec_capacity room.ports)
  pub rests : (room.rests.items ≡ []) × (length v.shape.ports ≤ vec_capacity room.rests)
  pub ends : (room.ends.items ≡ []) × (length (flow_lanes v.shape) ≤ vec_capacity room.ends)
  pub fars : (room.fars.items ≡ []) × (lanes_of v.shape ≤ vec_capacity room.fars)
  pub to_list : HasRoomToList v room.report
