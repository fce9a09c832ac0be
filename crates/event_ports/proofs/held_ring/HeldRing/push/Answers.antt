use Rattle.std.proofs.Common.{◌<◌, ◌++◌, ◌∷◌, [], length-set, ap, ◌∙◌, arith}
use Rattle.event_ports.specs.HeldRings.{Held}
use Rattle.lists.proofs.Windows.{window_pushed}
use Rattle.event_ports.proofs.Rings.{has_room}
use Rattle.event_ports.proofs.held_ring.HeldRing.push.Goals as goal

pub invariant_of-self : goal.invariant_of-self
invariant_of-self c =
    record {
      places = length-set c.self.inside.places.items _ _ ∙ c.self.invariant.places;
      first = c.self.invariant.first;
      few = has_room c.self.inside c.self.invariant c.args.self.now 1 c.self.view_is c.requires;
      room = c.self.invariant.room;
    }

pub returns-clause-noted : goal.returns-clause-noted
returns-clause-noted c =
    let room : c.self.inside.len < 64 = omega (arith, has_room c.self.inside c.self.invariant c.args.self.now 1 c.self.view_is c.requires, c.self.invariant.room) in
    window_pushed 64 c.self.inside.first c.self.inside.len c.self.inside.places.items c.self.invariant.first (omega (arith, room)) c.self.invariant.places c.args.holding room
    ∙ ap (λ (v : Held). v.items ++ c.args.holding ∷ []) c.self.view_is
