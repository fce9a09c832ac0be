use Rattle.std.proofs.Common.{◌∙◌, sym}
use Rattle.std.specs.BTreeSet.{contains}
use Rattle.std.specs.Ordering.{nat_cmp}
use Rattle.judge_app.proofs.Given.{find_more}
use Rattle.judge_app.proofs.orders.first_inside.Goals as goal

pub loop-number-preserved : goal.loop-number-preserved
loop-number-preserved c =
    find_more (λ n. contains nat_cmp c.args.set.now n) c.args.numbers.now c.loop-number.number-index c.loop-number-test.true (sym c.has.ensures ∙ c.if-has.false) ∙ c.loop-number.invariant
