use Rattle.std.proofs.Common.{◌<◌, ◌^◌, ◌∙◌, inl, inr, ⊎_elim, arith, rules}
use Rattle.std.proofs.lemmas.Bool.{cases_eq}
use Rattle.order_parts.proofs.Fewest.{has_low}
use Rattle.order_parts.proofs.round.Round.next.Goals as goal

pub returns-then-len-fewest-clause-round : goal.returns-then-len-fewest-clause-round
returns-then-len-fewest-clause-round c m has =
    let was = c.loop-lane.invariant in (
      omega (arith, (c.requires.round m has).0, was.same),
      λ e. ⊎_elim (λ same. inr same) (λ ne. inl ((c.in-Some.ensures.others m ne).1 (was.fewest m has (e ∙ was.same)))) (cases_eq m c.in-Some.lane),
    )

pub remove-requires : goal.remove-requires
remove-requires c = let fits : c.args.lanes.bits < 2 ^ 64 = search rules in has_low c.args.lanes c.in_ok-best.best fits c.in_ok-best.ensures.there
