use Rattle.std.proofs.Common.{◌≡◌, ◌≤◌, ◌+◌, length, vec_capacity, All}
use Rattle.event_ports.specs.Stop.{IsJoined, AreLeft, IsPaid, IsCounted}
use Rattle.event_ports.proofs.joined.join_ports.Given as goal

abbrev pub invariant-loop-port : goal.invariant-loop-port
invariant-loop-port l =
    IsJoined l.pool l.claims l.initial.credit l.initial.claim l.yielded l.credit l.claim × AreLeft l.yielded l.into.items
    × All IsPaid l.yielded × All IsCounted l.yielded × (vec_capacity l.into ≡ vec_capacity l.initial.into)
    × (length l.yielded + length l.port-iterator.rest.items ≤ vec_capacity l.into)
