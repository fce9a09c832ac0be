use Rattle.std.proofs.Common.{◌≡◌, ◌∙◌, ◌∷◌, [], All, length, sym, ap, subst, arith}
use Rattle.std.proofs.lemmas.List.{length-append}
use Rattle.std.proofs.lemmas.List.Elements.{All-push}
use Rattle.flow_claims.specs.Laws.{IsUnused}
use Rattle.lane_tests.proofs.tests.turns.eight_lanes.Goals as goal

pub loop-round-preserved : goal.loop-round-preserved
loop-round-preserved c =
    let was = c.loop-round.invariant in
    let pushed = c.push_reserved.ensures.items in (
      omega (arith, was.0, ap length pushed, length-append c.loop-round.ends.items (c.in_ok-_near.far ∷ [])),
      c.push_reserved.ensures.capacity ∙ was.1,
      subst (All IsUnused) (sym pushed)
          (All-push IsUnused c.loop-round.ends.items c.in_ok-_near.far was.2 (c.in_ok-_near.ensures.far.0, c.in_ok-_near.ensures.far.2)),
    )
