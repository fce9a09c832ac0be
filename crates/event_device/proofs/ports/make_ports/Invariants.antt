use Rattle.std.proofs.Common.{◌≤◌, length, vec_capacity}
use Rattle.event_device.proofs.Making.{IsMaking}
use Rattle.event_device.proofs.ports.make_ports.Given as goal

abbrev pub invariant-loop-own : goal.invariant-loop-own
invariant-loop-own l =
    IsMaking l.shape l.shared l.fn.owns.items l.yielded l.own-iterator.rest.items l.ports.items l.seats × (length l.fn.owns.items ≤ vec_capacity l.ports)
