use Rattle.std.proofs.Common.{◌≡◌, ◌+◌, ◌≤◌, ◌++◌, length, vec_capacity, vec_len}
use Rattle.std.specs.Prelude.{filter_map}
use Rattle.lane_rings.specs.Rest.{untaken}
use Rattle.event_device.specs.Listed.{untaken_of}
use Rattle.event_device.proofs.list_lanes.list_untaken.Given as goal

abbrev pub invariant-loop-reply : goal.invariant-loop-reply
invariant-loop-reply l =
    record {
      listed : l.into.items ++ filter_map (untaken_of l.lane) (untaken l.left) ≡ l.initial.into.items ++ filter_map (untaken_of l.lane) (untaken l.initial.left);
      fits : vec_len l.into + length (untaken l.left) ≤ vec_capacity l.into;
      room : vec_capacity l.into ≡ vec_capacity l.initial.into;
    }

abbrev pub decreases-loop-reply : goal.decreases-loop-reply
decreases-loop-reply l = length (untaken l.left)
