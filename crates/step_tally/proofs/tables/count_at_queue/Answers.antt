use Rattle.std.proofs.Common.{sym, ap, ◌∙◌, subst}
use Rattle.step_tally.specs.Tables.{HasFewOfQueue, queue_in, queue_row, row_after}
use Rattle.step_tally.proofs.Entries.{AreCounts-there, AreCounts-beyond, AreCounts-nowhere}
use Rattle.step_tally.proofs.Pushes.{queue_row-same, queue_row-other, queue_row_few}
use Rattle.step_tally.proofs.tables.count_at_queue.Goals as goal

pub count_of_queue-requires : goal.count_of_queue-requires
count_of_queue-requires g c =
    let T = g.L.StepLog.steps c.args._log.now in
    subst HasFewOfQueue (sym (c.requires c.in-Some.queue _ c.if-queue-table.true)) (queue_row_few T c.in-Some.queue (g.met.L.StepLog.short c.args._log.now))

pub returns-then-queue-table-clause-counts : goal.returns-then-queue-table-clause-counts
returns-then-queue-table-clause-counts g c =
    let T = g.L.StepLog.steps c.args._log.now in
    let s = c.args.step.now in
    let told = sym c.queue_in.ensures ∙ c.in-Some.is in
    let here = ap (λ x. row_after x s) (c.requires c.in-Some.queue _ c.if-queue-table.true) ∙ sym (queue_row-same T s c.in-Some.queue told) in
    AreCounts-there queue_row queue_in T s (queue_row-other T s) c.args.table.now c.requires c.in-Some.queue c.count_of_queue.new.row told (c.count_of_queue.ensures ∙ here)

pub returns-else-queue-table-clause-counts : goal.returns-else-queue-table-clause-counts
returns-else-queue-table-clause-counts g c =
    AreCounts-beyond queue_row queue_in _ c.args.step.now (queue_row-other _ c.args.step.now) c.args.table.now c.requires
    c.in-Some.queue (sym c.queue_in.ensures ∙ c.in-Some.is) c.if-queue-table.false

pub returns-in_default-clause-counts : goal.returns-in_default-clause-counts
returns-in_default-clause-counts g c =
    AreCounts-nowhere queue_row queue_in _ c.args.step.now (queue_row-other _ c.args.step.now) c.args.table.now c.requires (sym c.queue_in.ensures ∙ c.in_default.is)
