use Rattle.std.proofs.Common.{length, ap, arith}
use Rattle.event_ports.specs.HeldRings.{Held}
use Rattle.event_ports.proofs.Rings.{length_held}
use Rattle.event_ports.proofs.held_ring.HeldRing.capacity.Goals as goal

pub returns-clause-within : goal.returns-clause-within
returns-clause-within c =
    (omega (arith, c.self.invariant.few, length_held c.self.inside c.self.invariant, ap (λ (v : Held). length v.items) c.self.view_is), c.self.invariant.room)
