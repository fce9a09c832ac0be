use Rattle.std.proofs.Common.{◌≡◌, ◌+◌, [], ap, arith, length, length-append, sym, ◌∙◌}
use Rattle.step_log.specs.Rows.{news_steps}
use Rattle.step_tally.specs.Tables.{queue_row}
use Rattle.step_tally.specs.declared.tables.QueueRow.{QueueRow}
use Rattle.step_tally.proofs.Pushes.{queue_row_few}
use Rattle.step_tally.proofs.RowCounts.{counts_beyond, counts_set, length_news, news_row, news_row-other, row_with}
use Rattle.step_tally.proofs.rows.count_news_at_queue.Goals as goal

pub overflow_add-table : goal.overflow_add-table
overflow_add-table g c =
    let long : length (g.L.StepLog.steps c.args._log.now) ≡ length c.requires.0 + length c.args.replies.now = ap length c.requires.1 ∙ (length-append c.requires.0 (news_steps c.args._lane c.args.queue c.args.replies.now) ∙ ap (λ n. length c.requires.0 + n) (length_news c.args._lane c.args.queue c.args.replies.now)) in
    let short = g.met.L.StepLog.short c.args._log.now in
    let few = queue_row_few c.requires.0 c.args.queue (omega (arith, long, short)) in
    omega (arith, ap (λ (x : QueueRow). x.counts.rx_new) (c.requires.2 c.args.queue (record { counts = record { rx_new = 0; rx_forwarded = 0; tx = 0 }; given = [] }) c.if-queue-table.true), few.rx_new, long, short)

pub returns-then-queue-table-clause-counts : goal.returns-then-queue-table-clause-counts
returns-then-queue-table-clause-counts g c =
    let T = c.requires.0 in
    counts_set (queue_row T) (queue_row (g.L.StepLog.steps c.args._log.now)) c.args.table.now c.args.queue _ c.requires.2
    (ap (λ x. row_with x (length c.args.replies.now)) (c.requires.2 c.args.queue _ c.if-queue-table.true) ∙ (sym (news_row c.args._lane c.args.queue c.args.replies.now T) ∙ ap (λ U. queue_row U c.args.queue) (sym c.requires.1)))
    (λ k other. ap (λ U. queue_row U k) c.requires.1 ∙ news_row-other c.args._lane c.args.queue c.args.replies.now T k other)

pub returns-else-queue-table-clause-counts : goal.returns-else-queue-table-clause-counts
returns-else-queue-table-clause-counts g c =
    let T = c.requires.0 in
    counts_beyond (queue_row T) (queue_row (g.L.StepLog.steps c.args._log.now)) c.args.table.now c.args.queue c.requires.2 (omega (arith, c.if-queue-table.false))
    (λ k other. ap (λ U. queue_row U k) c.requires.1 ∙ news_row-other c.args._lane c.args.queue c.args.replies.now T k other)
