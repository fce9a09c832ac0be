use Rattle.std.proofs.Common.{arith}
use Rattle.history_judge.proofs.Crowded.{one_past, past_of}
use Rattle.history_judge.proofs.crowds.count_past.Goals as goal

pub returns-then-time-times : goal.returns-then-time-times
returns-then-time-times c =
    omega (arith, c.loop-past.invariant, past_of c.args.time c.loop-past.past c.args.times.now c.requires.rising (omega (arith, c.loop-past-test.true)) (omega (arith, c.if-time-times.true)))

pub loop-past-preserved : goal.loop-past-preserved
loop-past-preserved c =
    omega (arith, one_past c.args.time c.loop-past.past c.args.times.now c.requires.rising (omega (arith, c.loop-past-test.true)) (omega (arith, c.if-time-times.false)))
