use Rattle.std.proofs.Common.{◌≡◌, Some, arith, slice_get}
use Rattle.history_judge.proofs.InOrder.{entry_at, is_sorted, is_unsorted, latest_more, none_at_all, none_more, unsorted_within}
use Rattle.history_judge.specs.Entries.{IsUnsorted}
use Rattle.history_judge.proofs.entries.first_unsorted.Goals as goal

pub returns-then-seen-latest-clause-some : goal.returns-then-seen-latest-clause-some
returns-then-seen-latest-clause-some c =
    is_unsorted c.args.history.now c.loop-at.at c.loop-at.latest c.index-history-at.result
    (entry_at c.args.history.now c.loop-at.at c.index-history-at.result c.loop-at-test.true c.index-history-at.is) c.loop-at.invariant.0
    (omega (arith, c.if-seen-latest.true))

pub loop-at-preserved : goal.loop-at-preserved
loop-at-preserved c =
    let at : slice_get c.args.history.now c.loop-at.at ≡ Some c.index-history-at.result = entry_at c.args.history.now c.loop-at.at c.index-history-at.result c.loop-at-test.true c.index-history-at.is in (
      latest_more c.args.history.now c.loop-at.at c.loop-at.latest c.index-history-at.result at c.loop-at.invariant.0 (omega (arith, c.if-seen-latest.false)),
      none_more (IsUnsorted c.args.history.now) c.loop-at.at c.loop-at.invariant.1
          (is_sorted c.args.history.now c.loop-at.at c.loop-at.latest c.index-history-at.result at c.loop-at.invariant.0 (omega (arith, c.if-seen-latest.false))),
    )

pub returns-clause-none : goal.returns-clause-none
returns-clause-none c =
    none_at_all (IsUnsorted c.args.history.now) c.args.history.now c.loop-at.at c.loop-at-test.false (unsorted_within c.args.history.now) c.loop-at.invariant.1
