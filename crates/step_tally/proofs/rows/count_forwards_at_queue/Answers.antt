use Rattle.std.proofs.Common.{◌≡◌, ◌+◌, ◌*◌, [], ap, arith, length, length-append, sym, ◌∙◌}
use Rattle.step_log.specs.Rows.{forward_steps}
use Rattle.step_tally.specs.Tables.{queue_row}
use Rattle.step_tally.specs.declared.tables.QueueRow.{QueueRow}
use Rattle.step_tally.proofs.Pushes.{queue_row_few}
use Rattle.step_tally.proofs.RowCounts.{counts_beyond, counts_set, forwards_row, forwards_row-other, length_forwards, passed_with}
use Rattle.step_tally.proofs.rows.count_forwards_at_queue.Goals as goal

pub overflow_add-table : goal.overflow_add-table
overflow_add-table g c =
    let ns = c.args._numbers.now in
    let rs = c.args.replies.now in
    let long : length (g.L.StepLog.steps c.args._log.now) ≡ length c.requires.0 + 2 * length rs = ap length c.requires.1 ∙ (length-append c.requires.0 (forward_steps c.args._lane c.args._source ns rs) ∙ ap (λ n. length c.requires.0 + n) (length_forwards c.args._lane c.args._source ns rs c.requires.2)) in
    let short = g.met.L.StepLog.short c.args._log.now in
    let few = queue_row_few c.requires.0 c.args.target (omega (arith, long, short)) in
    omega (arith, ap (λ (x : QueueRow). x.counts.rx_forwarded) (c.requires.4 c.args.target (record { counts = record { rx_new = 0; rx_forwarded = 0; tx = 0 }; given = [] }) c.if-target-table.true), few.rx_forwarded, long, short)

pub returns-then-target-table-clause-counts : goal.returns-then-target-table-clause-counts
returns-then-target-table-clause-counts g c =
    let T = c.requires.0 in
    let ns = c.args._numbers.now in
    let rs = c.args.replies.now in
    counts_set (queue_row T) (queue_row (g.L.StepLog.steps c.args._log.now)) c.args.table.now c.args.target _ c.requires.4
    (ap (λ x. passed_with x (length rs)) (c.requires.4 c.args.target _ c.if-target-table.true) ∙ (sym (forwards_row c.args._lane c.args._source c.args.target ns rs T c.requires.2 c.requires.3) ∙ ap (λ U. queue_row U c.args.target) (sym c.requires.1)))
    (λ k other. ap (λ U. queue_row U k) c.requires.1 ∙ forwards_row-other c.args._lane c.args._source c.args.target ns rs T k c.requires.3 other)

pub returns-else-target-table-clause-counts : goal.returns-else-target-table-clause-counts
returns-else-target-table-clause-counts g c =
    let T = c.requires.0 in
    let ns = c.args._numbers.now in
    let rs = c.args.replies.now in
    counts_beyond (queue_row T) (queue_row (g.L.StepLog.steps c.args._log.now)) c.args.table.now c.args.target c.requires.4 (omega (arith, c.if-target-table.false))
    (λ k other. ap (λ U. queue_row U k) c.requires.1 ∙ forwards_row-other c.args._lane c.args._source c.args.target ns rs T k c.requires.3 other)
