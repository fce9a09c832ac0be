use Rattle.std.proofs.Common.{ℕ, List, ◌+◌, ◌<◌, ◌≤◌, ◌∙◌, arith, length, subst, sym}
use Rattle.std.specs.Int.{IsPowerOfTwo}
use Rattle.std.specs.Vec.{with_items}
use Rattle.lane_rings.proofs.HeldPairs.{has_room}
use Rattle.lane_rings.proofs.held_pairs.HeldPairs.note.Goals as goal

pub write-self-inside-requires-clause-room : goal.write-self-inside-requires-clause-room
write-self-inside-requires-clause-room c =
    subst (λ (ps : List (ℕ × ℕ)). c.self.inside.len + length c.args.deliveries.now ≤ length ps) (sym c.deref_mut.ensures.value)
    (has_room c.self.inside c.self.invariant c.args.self.now (length c.args.deliveries.now) c.self.view_is c.requires)

pub invariant_of-self : goal.invariant_of-self
invariant_of-self c =
    let room = has_room c.self.inside c.self.invariant c.args.self.now (length c.args.deliveries.now) c.self.view_is c.requires in
    let long = sym c.self.inside.places.ok.0 ∙ (with_items c.self.inside.places c.write-self-inside.new.places).ok.0 in
    record {
      power = subst IsPowerOfTwo long c.self.invariant.power;
      first = subst (λ n. c.self.inside.first < n) long c.self.invariant.first;
      few = subst (λ n. c.write-self-inside.result ≤ n) long (omega (arith, room, c.write-self-inside.ensures.count));
    }
