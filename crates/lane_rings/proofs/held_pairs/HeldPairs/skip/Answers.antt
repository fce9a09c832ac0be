use Rattle.std.proofs.Common.{List, ℕ, ◌+◌, ◌-◌, ◌%◌, ◌∙◌, ap, arith, drop, length, subst, sym}
use Rattle.std.specs.Int.{IsPowerOfTwo}
use Rattle.lists.specs.Windows.{window}
use Rattle.lane_rings.specs.HeldPairs.{Held, holds}
use Rattle.lane_rings.proofs.HeldPairs.{fewer_held, length_is}
use Rattle.lane_rings.proofs.held_pairs.HeldPairs.skip.Goals as goal

pub place_behind-self-inside-requires : goal.place_behind-self-inside-requires
place_behind-self-inside-requires c =
    let within = length_is c.self.inside c.self.invariant c.args.self.now c.self.view_is in
    record {
      within = (omega (arith, c.self.invariant.first, c.len.ensures), omega (arith, c.requires, within, c.self.invariant.few, c.len.ensures), omega (arith, c.len.ensures));
      power = subst IsPowerOfTwo (sym (c.len.ensures ∙ c.self.inside.places.ok.0)) c.self.invariant.power;
    }

pub overflow_sub-self : goal.overflow_sub-self
overflow_sub-self c = omega (arith, c.requires, length_is c.self.inside c.self.invariant c.args.self.now c.self.view_is)

pub returns : goal.returns
returns c =
    let a = c.self.inside in
    let at = c.place_behind-self-inside.ensures ∙ ap (λ (n : ℕ). (a.first + c.args.count) % n) (c.len.ensures ∙ c.self.inside.places.ok.0) in
    ap (λ (k : ℕ). holds (window k (a.len - c.args.count) a.places.items) (length a.places.items)) at
    ∙ (ap (λ (ps : List (ℕ × ℕ)). holds ps (length a.places.items)) (fewer_held a c.self.invariant c.args.count (omega (arith, c.requires, length_is a c.self.invariant c.args.self.now c.self.view_is)))
    ∙ ap (λ (v : Held). holds (drop c.args.count v.items) v.room) c.self.view_is)
