use Rattle.std.proofs.Common.{ℕ, ◌+◌, ◌%◌, ◌++◌, ◌∷◌, [], ◌∙◌, ap, arith, length-set, subst, sym}
use Rattle.std.specs.Int.{IsPowerOfTwo}
use Rattle.evt_types.specs.Event.{pair_of}
use Rattle.lane_rings.specs.HeldPairs.{Held, holds}
use Rattle.lane_rings.proofs.HeldPairs.{has_room, one_pushed}
use Rattle.lane_rings.proofs.held_pairs.HeldPairs.note_one.Goals as goal

pub invariant_of-self : goal.invariant_of-self
invariant_of-self c =
    let long = length-set c.self.inside.places.items c.place_behind-last.result (c.queue.result, c.number.result) in
    record {
      power = subst IsPowerOfTwo (sym long) c.self.invariant.power;
      first = omega (arith, c.self.invariant.first, long);
      few = omega (arith, has_room c.self.inside c.self.invariant c.args.self.now 1 c.self.view_is (omega (arith, c.requires)), long);
    }

pub returns : goal.returns
returns c =
    let at = c.place_behind-last.ensures ∙ ap (λ (n : ℕ). (c.self.inside.first + c.self.inside.len) % n) (c.len.ensures ∙ c.self.inside.places.ok.0) in
    rw (at, c.queue.ensures, c.number.ensures)
    (one_pushed c.self.inside c.self.invariant (pair_of c.args.delivery.now) (omega (arith, has_room c.self.inside c.self.invariant c.args.self.now 1 c.self.view_is (omega (arith, c.requires))))
    ∙ ap (λ (v : Held). holds (v.items ++ pair_of c.args.delivery.now ∷ []) v.room) c.self.view_is)
