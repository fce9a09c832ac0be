use Rattle.history_judge.proofs.InOrder.{entry_at}
use Rattle.history_judge.proofs.Arriving.{getters_more}
use Rattle.history_judge.proofs.arrivals.all_getters.Goals as goal

pub loop-at-preserved : goal.loop-at-preserved
loop-at-preserved c =
    getters_more c.args.history.now c.loop-at.at c.index-history-at.result c.loop-at.getters c.note_getter.new.getters
    (entry_at c.args.history.now c.loop-at.at c.index-history-at.result c.loop-at-test.true c.index-history-at.is) c.loop-at.invariant c.in_ok-note_getter.ensures
