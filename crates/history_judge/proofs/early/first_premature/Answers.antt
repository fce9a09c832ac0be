use Rattle.std.proofs.Common.{◌∙◌, sym}
use Rattle.history_judge.proofs.Begun.{not_premature, premature_by, premature_within}
use Rattle.history_judge.proofs.InOrder.{entry_at, none_at_all, none_more}
use Rattle.history_judge.specs.Values.{IsPremature}
use Rattle.history_judge.proofs.early.first_premature.Goals as goal

pub returns-then-is_premature-clause-some : goal.returns-then-is_premature-clause-some
returns-then-is_premature-clause-some c =
    premature_by c.args.history.now c.loop-at.at c.index-history-at.result c.in_ok-begins.begins
    (entry_at c.args.history.now c.loop-at.at c.index-history-at.result c.loop-at-test.true c.index-history-at.is) c.in_ok-begins.ensures
    (sym c.is_premature.ensures ∙ c.if-is_premature.true)

pub loop-at-preserved : goal.loop-at-preserved
loop-at-preserved c =
    none_more (IsPremature c.args.history.now) c.loop-at.at c.loop-at.invariant
    (not_premature c.args.history.now c.loop-at.at c.index-history-at.result c.in_ok-begins.begins
    (entry_at c.args.history.now c.loop-at.at c.index-history-at.result c.loop-at-test.true c.index-history-at.is) c.in_ok-begins.ensures
    (sym c.is_premature.ensures ∙ c.if-is_premature.false))

pub returns-clause-none : goal.returns-clause-none
returns-clause-none c =
    none_at_all (IsPremature c.args.history.now) c.args.history.now c.loop-at.at c.loop-at-test.false (premature_within c.args.history.now) c.loop-at.invariant
