use Rattle.std.proofs.Common.{◌+◌, ap, length, arith}
use Rattle.step_tally.specs.declared.counts.LaneCounts.{LaneCounts}
use Rattle.step_tally.proofs.GivenRows.{lanes_beyond, lanes_there}
use Rattle.step_tally.proofs.Pushes.{lane_counts_few}
use Rattle.step_tally.proofs.gives.count_gives_at_lane.Goals as goal

pub overflow_add-table : goal.overflow_add-table
overflow_add-table g c =
    let few = lane_counts_few (g.L.StepLog.steps c.args._log.now) c.args.lane (g.met.L.StepLog.short c.args._log.now) in
    let tx = few.tx in
    omega (arith, ap (λ (k : LaneCounts). k.tx) (c.requires c.args.lane (record { rx_new = 0; tx = 0; released = 0; forwarded = 0; added = 0; turned = 0; bounced = 0 }) c.if-lane-table.true))

pub returns-then-lane-table-clause-counts : goal.returns-then-lane-table-clause-counts
returns-then-lane-table-clause-counts g c =
    lanes_there (g.L.StepLog.steps c.args._log.now) c.args.lane c.args._queue c.args.row.now c.args.table.now _ c.requires
    (ap (λ (k : LaneCounts). record k { tx = k.tx + length c.args.row.now }) (c.requires c.args.lane _ c.if-lane-table.true))

pub returns-else-lane-table-clause-counts : goal.returns-else-lane-table-clause-counts
returns-else-lane-table-clause-counts g c =
    lanes_beyond (g.L.StepLog.steps c.args._log.now) c.args.lane c.args._queue c.args.row.now c.args.table.now c.requires c.if-lane-table.false
