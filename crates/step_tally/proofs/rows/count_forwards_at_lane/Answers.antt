use Rattle.std.proofs.Common.{◌≡◌, ◌+◌, ◌*◌, ap, arith, length, length-append, sym, ◌∙◌}
use Rattle.step_log.specs.Rows.{forward_steps}
use Rattle.step_tally.specs.Counts.{lane_counts}
use Rattle.step_tally.specs.declared.counts.LaneCounts.{LaneCounts}
use Rattle.step_tally.proofs.Pushes.{lane_counts_few}
use Rattle.step_tally.proofs.RowCounts.{counts_beyond, counts_set, forwarded_with, forwards_lane, forwards_lane-other, length_forwards}
use Rattle.step_tally.proofs.rows.count_forwards_at_lane.Goals as goal

pub overflow_add-table : goal.overflow_add-table
overflow_add-table g c =
    let ns = c.args._numbers.now in
    let rs = c.args.replies.now in
    let long : length (g.L.StepLog.steps c.args._log.now) ≡ length c.requires.0 + 2 * length rs = ap length c.requires.1 ∙ (length-append c.requires.0 (forward_steps c.args.lane c.args._source ns rs) ∙ ap (λ n. length c.requires.0 + n) (length_forwards c.args.lane c.args._source ns rs c.requires.2)) in
    let short = g.met.L.StepLog.short c.args._log.now in
    let few = lane_counts_few c.requires.0 c.args.lane (omega (arith, long, short)) in
    omega (arith, ap (λ (x : LaneCounts). x.forwarded) (c.requires.3 c.args.lane (record { rx_new = 0; tx = 0; released = 0; forwarded = 0; added = 0; turned = 0; bounced = 0 }) c.if-lane-table.true), few.forwarded, long, short)

pub returns-then-lane-table-clause-counts : goal.returns-then-lane-table-clause-counts
returns-then-lane-table-clause-counts g c =
    let T = c.requires.0 in
    let ns = c.args._numbers.now in
    let rs = c.args.replies.now in
    counts_set (lane_counts T) (lane_counts (g.L.StepLog.steps c.args._log.now)) c.args.table.now c.args.lane _ c.requires.3
    (ap (λ x. forwarded_with x (length rs)) (c.requires.3 c.args.lane _ c.if-lane-table.true) ∙ (sym (forwards_lane c.args.lane c.args._source ns rs T c.requires.2) ∙ ap (λ U. lane_counts U c.args.lane) (sym c.requires.1)))
    (λ k other. ap (λ U. lane_counts U k) c.requires.1 ∙ forwards_lane-other c.args.lane c.args._source ns rs T k other)

pub returns-else-lane-table-clause-counts : goal.returns-else-lane-table-clause-counts
returns-else-lane-table-clause-counts g c =
    let T = c.requires.0 in
    let ns = c.args._numbers.now in
    let rs = c.args.replies.now in
    counts_beyond (lane_counts T) (lane_counts (g.L.StepLog.steps c.args._log.now)) c.args.table.now c.args.lane c.requires.3 (omega (arith, c.if-lane-table.false))
    (λ k other. ap (λ U. lane_counts U k) c.requires.1 ∙ forwards_lane-other c.args.lane c.args._source ns rs T k other)
