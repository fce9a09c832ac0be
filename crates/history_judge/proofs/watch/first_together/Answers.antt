use Rattle.std.proofs.Common.{arith}
use Rattle.history_judge.proofs.Followed.{none_together}
use Rattle.history_judge.proofs.watch.first_together.Goals as goal

pub returns-clause-none : goal.returns-clause-none
returns-clause-none c =
    none_together c.args.shape.now c.args.history.now c.loop-at.at c.loop-at.watch.got.items c.loop-at.watch.latest.items (omega (arith, c.loop-at-test.false)) c.loop-at.invariant
