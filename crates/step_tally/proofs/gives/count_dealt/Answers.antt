use Rattle.std.proofs.Common.{◌∙◌, ap, slice_index, arith}
use Rattle.step_tally.specs.declared.tables.QueueRow.{QueueRow}
use Rattle.step_tally.proofs.DealtRows.{row_dealt-all, row_dealt-beyond, row_dealt-few, row_dealt-more}
use Rattle.step_tally.proofs.Pushes.{queue_row_few}
use Rattle.step_tally.proofs.gives.count_dealt.Goals as goal
use Rattle.step_tally.proofs.gives.count_dealt.Goals.{then-lane-lt-MAX_PORTS, else-lane-lt-MAX_PORTS}

pub overflow_add-counted : goal.overflow_add-counted
overflow_add-counted g c =
    let few = queue_row_few (g.L.StepLog.steps c.args._log.now) c.args._queue (g.met.L.StepLog.short c.args._log.now) in
    let tx = few.tx in
    omega (arith, ap (λ (r : QueueRow). r.counts.tx) c.requires.counts)

pub overflow_add-counted-then-lane-lt-MAX_PORTS : goal.overflow_add-counted-then-lane-lt-MAX_PORTS
overflow_add-counted-then-lane-lt-MAX_PORTS g c =
    let i = c.loop-lane.lane-index in
    let ls = c.args.lanes.now in
    omega (
      arith,
      row_dealt-few (g.L.StepLog.steps c.args._log.now) c.args._queue c.args._row.now ls i (slice_index ls i) c.loop-lane.counted c.loop-lane.invariant c.if-lane-lt-MAX_PORTS.true,
      g.met.L.StepLog.short c.args._log.now,
      c.loop-lane-test.true,
    )

pub loop-lane-preserved : goal.loop-lane-preserved
loop-lane-preserved g c =
    let T = g.L.StepLog.steps c.args._log.now in
    let q = c.args._queue in
    let ds = c.args._row.now in
    let ls = c.args.lanes.now in
    let i = c.loop-lane.lane-index in
    elim c.if-lane-lt-MAX_PORTS.branch [
      | then-lane-lt-MAX_PORTS w ↦ w.counted-is ∙ row_dealt-more T q ds ls i c.requires.lanes c.loop-lane-test.true c.loop-lane.counted c.loop-lane.invariant
      | else-lane-lt-MAX_PORTS w ↦ w.counted-is ∙ (c.loop-lane.invariant ∙ row_dealt-beyond T q ds ls i c.requires.lanes c.loop-lane-test.true w.if-lane-lt-MAX_PORTS.false)
    ]

pub returns : goal.returns
returns g c =
    c.loop-lane.invariant ∙ row_dealt-all (g.L.StepLog.steps c.args._log.now) c.args._queue c.args._row.now c.args.lanes.now c.loop-lane.lane-index c.requires.lanes c.loop-lane-test.false
