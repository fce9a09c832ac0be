use Rattle.std.proofs.Common.{◌+◌, arith}
use Rattle.history_judge.proofs.InOrder.{entry_at, none_at_all, none_more}
use Rattle.history_judge.proofs.Lefts.{excess_within, is_excess, left_all, left_less, no_excess}
use Rattle.history_judge.specs.Left.{AreLeft}
use Rattle.history_judge.specs.Values.{IsExcess}
use Rattle.history_judge.proofs.values.first_excess.Goals as goal

pub loop-at-init : goal.loop-at-init
loop-at-init c = (left_all c.args.history.now c.in_ok-left.left c.in_ok-left.ensures, λ i lt. absurd (omega (arith, lt)))

pub returns-then-not-branch-clause-some : goal.returns-then-not-branch-clause-some
returns-then-not-branch-clause-some c =
    is_excess c.args.history.now c.loop-at.at c.index-history-at.result c.loop-at.left
    (entry_at c.args.history.now c.loop-at.at c.index-history-at.result c.loop-at-test.true c.index-history-at.is) c.loop-at.invariant.0
    (c.in_ok-note_got.ensures.lacking c.if-not-branch.true)

pub loop-at-preserved : goal.loop-at-preserved
loop-at-preserved c =
    let left : AreLeft c.args.history.now (c.loop-at.at + 1) c.note_got.new.left =
    left_less c.args.history.now c.loop-at.at c.index-history-at.result c.loop-at.left c.note_got.new.left
    (entry_at c.args.history.now c.loop-at.at c.index-history-at.result c.loop-at-test.true c.index-history-at.is) c.loop-at.invariant.0
    (c.in_ok-note_got.ensures.there c.if-not-branch.false) in
    (left, none_more (IsExcess c.args.history.now) c.loop-at.at c.loop-at.invariant.1 (no_excess c.args.history.now c.loop-at.at c.note_got.new.left left))

pub returns-clause-none : goal.returns-clause-none
returns-clause-none c =
    none_at_all (IsExcess c.args.history.now) c.args.history.now c.loop-at.at c.loop-at-test.false (excess_within c.args.history.now) c.loop-at.invariant.1
