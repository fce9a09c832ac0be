use Rattle.std.proofs.Common.{arith}
use Rattle.history_judge.proofs.InOrder.{entry_at, is_known, none_at_all, none_more, unknown_within}
use Rattle.history_judge.specs.Entries.{IsUnknown}
use Rattle.history_judge.proofs.entries.first_unknown.Goals as goal

pub returns-then-seen-ports-clause-some : goal.returns-then-seen-ports-clause-some
returns-then-seen-ports-clause-some c =
    record {
      seen = c.index-history-at.result;
      entry = entry_at c.args.history.now c.loop-at.at c.index-history-at.result c.loop-at-test.true c.index-history-at.is;
      missing = omega (arith, c.if-seen-ports.true);
    }

pub loop-at-preserved : goal.loop-at-preserved
loop-at-preserved c =
    none_more (IsUnknown c.args.ports c.args.history.now) c.loop-at.at c.loop-at.invariant
    (is_known c.args.ports c.args.history.now c.loop-at.at c.index-history-at.result
    (entry_at c.args.history.now c.loop-at.at c.index-history-at.result c.loop-at-test.true c.index-history-at.is)
    (omega (arith, c.if-seen-ports.false)))

pub returns-clause-none : goal.returns-clause-none
returns-clause-none c =
    none_at_all (IsUnknown c.args.ports c.args.history.now) c.args.history.now c.loop-at.at c.loop-at-test.false (unknown_within c.args.ports c.args.history.now) c.loop-at.invariant
