use Rattle.std.proofs.Common.{◌≡◌, ◌≤◌, Some, length, map, vec_capacity}
use Rattle.event_device.proofs.running.put_all.Given as goal

abbrev pub invariant-loop-port : goal.invariant-loop-port
invariant-loop-port l = record {
  placed : l.homes.items ≡ map Some l.yielded;
  room : length l.fn.ports.items ≤ vec_capacity l.homes;
}
