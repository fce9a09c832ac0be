use Rattle.step_tally.specs.Counts.{lane_counts}
use Rattle.step_tally.specs.Tables.{AreCounts}
use Rattle.step_tally.proofs.DealtRows.{dealt}
use Rattle.step_tally.proofs.gives.count_deals_at_lanes.Given as goal

abbrev pub invariant-loop-lane : goal.invariant-loop-lane
invariant-loop-lane g l = AreCounts (lane_counts (dealt (g.L.StepLog.steps l._log) l._queue l._row l.lanes l.lane-index)) l.table
