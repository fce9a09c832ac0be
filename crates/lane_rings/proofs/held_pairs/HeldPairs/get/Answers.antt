use Rattle.std.proofs.Common.{ℕ, ◌+◌, ◌%◌, ◌∙◌, ap, arith, get_or, slice_get}
use Rattle.lane_rings.specs.HeldPairs.{Held}
use Rattle.lane_rings.proofs.HeldPairs.{no_more_held, one_held}
use Rattle.lane_rings.proofs.held_pairs.HeldPairs.get.Goals as goal

pub returns-then-position-self : goal.returns-then-position-self
returns-then-position-self c =
    no_more_held c.self.inside c.self.invariant c.args.position (omega (arith, c.if-position-self.true)) ∙ ap (λ (v : Held). slice_get v.items c.args.position) c.self.view_is

pub returns : goal.returns
returns c =
    let at = c.place_behind.ensures ∙ ap (λ (n : ℕ). (c.self.inside.first + c.args.position) % n) (c.len.ensures ∙ c.self.inside.places.ok.0) in
    one_held c.self.inside c.self.invariant c.args.position c.index.result.now (c.index.ensures ∙ ap (λ (k : ℕ). get_or c.self.inside.places.items k c.index.result.now) at) (omega (arith, c.if-position-self.false))
    ∙ ap (λ (v : Held). slice_get v.items c.args.position) c.self.view_is
