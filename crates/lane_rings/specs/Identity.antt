-- Which lane an end belongs to. Two ends are those of one lane exactly where their lanes' identities are equal.
use Rattle.std.specs.Prelude.{ℕ}
use denote.RawPtr.{Ptr}
use Rattle.rtrb.specs.Shared.{Names}
use Rattle.std.specs.declared.alloc.Global.{Global}
use Rattle.lane_rings.specs.declared.far.Far.{Far}
use Rattle.lane_rings.specs.declared.near.Near.{Near}

-- the memory of a ring
pub record RingId : Type 0 where
  pub words : Ptr
  pub slots : Ptr
  pub names : Names
  pub heap : Global

-- both rings, the room of the delivery ring, which is also how many deliveries may be held, and the room of the reply ring
pub record LaneId : Type 0 where
  pub deliveries : RingId
  pub replies : RingId
  pub depth : ℕ
  pub room : ℕ

-- the lane of the scheduler's end
abbrev pub near_id : Near → LaneId
near_id near =
    record {
      deliveries = record { words = near.deliveries.outlet.ring.end.words; slots = near.deliveries.outlet.ring.end.slots; names = near.deliveries.outlet.ring.end.names; heap = near.deliveries.outlet.ring.end.heap };
      replies = record { words = near.replies.ring.end.words; slots = near.replies.ring.end.slots; names = near.replies.ring.end.names; heap = near.replies.ring.end.heap };
      depth = near.deliveries.outlet.ring.capacity;
      room = near.replies.ring.capacity;
    }

-- the lane of the holder's end
abbrev pub far_id : Far → LaneId
far_id far =
    record {
      deliveries = record { words = far.deliveries.ring.end.words; slots = far.deliveries.ring.end.slots; names = far.deliveries.ring.end.names; heap = far.deliveries.ring.end.heap };
      replies = record { words = far.replies.ring.end.words; slots = far.replies.ring.end.slots; names = far.replies.ring.end.names; heap = far.replies.ring.end.heap };
      depth = far.deliveries.ring.capacity;
      room = far.replies.ring.capacity;
    }
