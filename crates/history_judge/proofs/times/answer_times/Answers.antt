use Rattle.std.proofs.Common.{arith}
use Rattle.history_judge.proofs.InOrder.{entry_at, port_known}
use Rattle.history_judge.proofs.times.answer_times.Goals as goal

pub note-requires : goal.note-requires
note-requires c =
    omega (
      arith,
      port_known c.args.ports c.args.history.now c.loop-seen.seen-index c.seen-item.result c.requires
          (entry_at c.args.history.now c.loop-seen.seen-index c.seen-item.result c.loop-seen-test.true c.seen-item.is),
      c.loop-seen.invariant.sized,
    )
