use Rattle.std.proofs.Common.{◌≡◌, ◌+◌, ◌≤◌, length, map, flat_map}
use Rattle.std.specs.Prelude.{vec_capacity, vec_len, sum_by}
use Rattle.event_ports.specs.declared.rest.Rest.{Rest}
use Rattle.event_device.specs.Held.{held_in}
use Rattle.event_device.proofs.held.list_ports.Given as goal

abbrev pub invariant-loop-rest : goal.invariant-loop-rest
invariant-loop-rest l =
    record {
      held : l.held.items ≡ flat_map held_in l.yielded;
      pockets : l.pockets.items ≡ map (λ (r : Rest). r.pocket) l.yielded;
      fars : l.fars.items ≡ map (λ (r : Rest). r.own) l.yielded;
      held_room : vec_len l.held + sum_by (λ (r : Rest). length r.held.items) l.rest-iterator.rest.items ≤ vec_capacity l.held;
      pockets_room : vec_len l.pockets + length l.rest-iterator.rest.items ≤ vec_capacity l.pockets;
      fars_room : vec_len l.fars + length l.rest-iterator.rest.items ≤ vec_capacity l.fars;
      room : vec_capacity l.fars ≡ vec_capacity l.initial.fars;
    }
