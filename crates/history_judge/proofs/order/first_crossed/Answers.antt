use Rattle.std.proofs.Common.{◌∙◌, arith, subst, sym}
use Rattle.history_judge.proofs.Crossing.{where_none}
use Rattle.history_judge.specs.Streams.{AreFirsts}
use Rattle.history_judge.proofs.order.first_crossed.Goals as goal

pub loop-gone-preserved : goal.loop-gone-preserved
loop-gone-preserved c =
    subst (λ a. AreFirsts c.args.shape.now c.args.history.now c.args.course a c.follow.new.firsts) (omega arith)
    (where_none c.in_ok-found.found (sym c.is_some.ensures ∙ c.if-is_some.false) c.in_ok-found.ensures.kept)

pub returns-clause-none : goal.returns-clause-none
returns-clause-none c i j bad = absurd (omega (arith, c.loop-gone.invariant.kept i j bad))
