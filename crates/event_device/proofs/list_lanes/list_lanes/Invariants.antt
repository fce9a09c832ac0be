use Rattle.std.proofs.Common.{◌≡◌, ◌≤◌, ◌*◌, length, vec_capacity, vec_len}
use Rattle.event_device.proofs.Leftovers.{AreListed}
use Rattle.event_device.proofs.list_lanes.list_lanes.Given as goal

abbrev pub invariant-loop-lane : goal.invariant-loop-lane
invariant-loop-lane l =
    record {
      listed : AreListed l.fn.nears.items l.fn.fars.items (length l.yielded) l.undelivered.items l.untaken.items;
      few : (vec_len l.undelivered ≤ 64 * length l.yielded) × (vec_len l.untaken ≤ 128 * length l.yielded);
      room : (vec_capacity l.undelivered ≡ vec_capacity l.initial.undelivered) × (vec_capacity l.untaken ≡ vec_capacity l.initial.untaken);
    }
