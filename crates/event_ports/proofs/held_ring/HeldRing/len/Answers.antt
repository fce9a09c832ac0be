use Rattle.std.proofs.Common.{length, sym, ap, ◌∙◌}
use Rattle.event_ports.specs.HeldRings.{Held}
use Rattle.event_ports.proofs.Rings.{length_held}
use Rattle.event_ports.proofs.held_ring.HeldRing.len.Goals as goal

pub returns-clause-len : goal.returns-clause-len
returns-clause-len c = sym (length_held c.self.inside c.self.invariant) ∙ ap (λ (v : Held). length v.items) c.self.view_is
