use Rattle.std.proofs.Common.{◌≡◌, ◌+◌, ◌≤◌, ◌++◌, length, map, vec_capacity, vec_len}
use Rattle.lane_rings.specs.Rest.{undelivered, untaken}
use Rattle.event_device.specs.Listed.{undelivered_of}
use Rattle.event_device.proofs.list_lanes.list_undelivered.Given as goal

abbrev pub invariant-loop-delivery : goal.invariant-loop-delivery
invariant-loop-delivery l =
    record {
      listed : l.into.items ++ map (undelivered_of l.lane) (undelivered l.left) ≡ l.initial.into.items ++ map (undelivered_of l.lane) (undelivered l.initial.left);
      fits : vec_len l.into + length (undelivered l.left) ≤ vec_capacity l.into;
      room : vec_capacity l.into ≡ vec_capacity l.initial.into;
      others : untaken l.left ≡ untaken l.initial.left;
    }

abbrev pub decreases-loop-delivery : goal.decreases-loop-delivery
decreases-loop-delivery l = length (undelivered l.left)
