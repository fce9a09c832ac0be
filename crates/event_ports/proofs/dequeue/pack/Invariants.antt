use Rattle.std.proofs.Common.{◌≡◌, length, take}
use Rattle.event_ports.specs.Desks.{events_of}
use Rattle.event_ports.proofs.dequeue.pack.Given as goal

abbrev pub invariant-loop-position : goal.invariant-loop-position
invariant-loop-position l = (length l.replies ≡ length l.initial.replies) × (events_of (take l.position l.replies) ≡ take l.position l.events)
