use Rattle.std.proofs.Common.{◌+◌, ap, slice_index, subst, sym, arith}
use Rattle.step_tally.specs.Counts.{lane_counts}
use Rattle.step_tally.specs.Tables.{AreCounts}
use Rattle.step_tally.specs.declared.counts.LaneCounts.{LaneCounts}
use Rattle.step_tally.proofs.DealtRows.{dealt, lanes_dealt, lanes_few, lanes_missed}
use Rattle.step_tally.proofs.gives.count_deals_at_lanes.Goals as goal
use Rattle.step_tally.proofs.gives.count_deals_at_lanes.Goals.{then-lane-table, else-lane-table}

pub overflow_add-table : goal.overflow_add-table
overflow_add-table g c =
    let i = c.loop-lane.lane-index in
    let l = slice_index c.args.lanes.now i in
    omega (
      arith,
      lanes_few (g.L.StepLog.steps c.args._log.now) c.args._queue c.args._row.now c.args.lanes.now i l _ (c.loop-lane.invariant l (record { rx_new = 0; tx = 0; released = 0; forwarded = 0; added = 0; turned = 0; bounced = 0 }) c.if-lane-table.true),
      g.met.L.StepLog.short c.args._log.now,
      c.loop-lane-test.true,
    )

pub loop-lane-preserved : goal.loop-lane-preserved
loop-lane-preserved g c =
    let T = g.L.StepLog.steps c.args._log.now in
    let q = c.args._queue in
    let ds = c.args._row.now in
    let ls = c.args.lanes.now in
    let i = c.loop-lane.lane-index in
    let are = AreCounts (lane_counts (dealt T q ds ls (i + 1))) in
    elim c.if-lane-table.branch [
      | then-lane-table w ↦
          subst are (sym w.table-is)
          (lanes_dealt T q ds ls i c.requires.lanes c.loop-lane-test.true c.loop-lane.table c.loop-lane.invariant _
          (ap (λ (x : LaneCounts). record x { tx = x.tx + 1 }) (c.loop-lane.invariant (slice_index ls i) _ w.if-lane-table.true)))
      | else-lane-table w ↦
          subst are (sym w.table-is) (lanes_missed T q ds ls i c.requires.lanes c.loop-lane-test.true c.loop-lane.table c.loop-lane.invariant w.if-lane-table.false)
    ]
