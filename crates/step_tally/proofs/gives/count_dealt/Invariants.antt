use Rattle.std.proofs.Common.{◌≡◌}
use Rattle.step_tally.proofs.DealtRows.{row_dealt}
use Rattle.step_tally.proofs.gives.count_dealt.Given as goal

abbrev pub invariant-loop-lane : goal.invariant-loop-lane
invariant-loop-lane g l = l.counted ≡ row_dealt (g.L.StepLog.steps l._log) l._queue l._row l.lanes l.lane-index
