use Rattle.std.proofs.Common.{◌≡◌, ◌+◌, cond, rules}
use Rattle.history_judge.proofs.InOrder.{entry_at}
use Rattle.history_judge.proofs.LeftOver.{open_more}
use Rattle.history_judge.specs.Undecided.{counts_over, sends_such}
use Rattle.history_judge.proofs.undecided.count_undelivered.Goals as goal

pub loop-seen-preserved : goal.loop-seen-preserved
loop-seen-preserved c =
    open_more c.args.history.now c.loop-seen.seen-index c.seen-item.result c.in_ok-got.got c.loop-seen.before c.note_sent.new.left c.loop-seen.undelivered
    (c.loop-seen.undelivered + c.from-undelivered.result)
    (entry_at c.args.history.now c.loop-seen.seen-index c.seen-item.result c.loop-seen-test.true c.seen-item.is) c.in_ok-got.ensures c.loop-seen.invariant
    c.in_ok-note_sent.ensures one
  where
    one : c.loop-seen.undelivered + c.from-undelivered.result ≡ c.loop-seen.undelivered + cond (sends_such (counts_over c.in_ok-got.got c.loop-seen.before) c.seen-item.result.deed) 1 0
    one = search rules
