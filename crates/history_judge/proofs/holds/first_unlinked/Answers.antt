use Rattle.std.proofs.Common.{◌∙◌, length, sym}
use Rattle.history_judge.proofs.Holdings.{is_linked, is_unlinked, lane_there, unlinked_within}
use Rattle.history_judge.proofs.InOrder.{entry_at, none_at_all, none_more, port_known}
use Rattle.history_judge.specs.Breaches.{IsUnlinked}
use Rattle.history_judge.proofs.holds.first_unlinked.Goals as goal

pub is_unlinked-requires : goal.is_unlinked-requires
is_unlinked-requires c =
    lane_there c.args.shape.now c.index-history-at.result.port
    (port_known (length c.args.shape.now.ports) c.args.history.now c.loop-at.at c.index-history-at.result c.requires
    (entry_at c.args.history.now c.loop-at.at c.index-history-at.result c.loop-at-test.true c.index-history-at.is))

pub returns-then-is_unlinked-clause-some : goal.returns-then-is_unlinked-clause-some
returns-then-is_unlinked-clause-some c =
    is_unlinked c.args.shape.now c.args.history.now c.loop-at.at c.index-history-at.result
    (entry_at c.args.history.now c.loop-at.at c.index-history-at.result c.loop-at-test.true c.index-history-at.is)
    (sym c.is_unlinked.ensures ∙ c.if-is_unlinked.true)

pub loop-at-preserved : goal.loop-at-preserved
loop-at-preserved c =
    none_more (IsUnlinked c.args.shape.now c.args.history.now) c.loop-at.at c.loop-at.invariant
    (is_linked c.args.shape.now c.args.history.now c.loop-at.at c.index-history-at.result
    (entry_at c.args.history.now c.loop-at.at c.index-history-at.result c.loop-at-test.true c.index-history-at.is)
    (sym c.is_unlinked.ensures ∙ c.if-is_unlinked.false))

pub returns-clause-none : goal.returns-clause-none
returns-clause-none c =
    none_at_all (IsUnlinked c.args.shape.now c.args.history.now) c.args.history.now c.loop-at.at c.loop-at-test.false
    (unlinked_within c.args.shape.now c.args.history.now) c.loop-at.invariant
