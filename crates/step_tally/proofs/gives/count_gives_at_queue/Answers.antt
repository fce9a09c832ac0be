use Rattle.std.proofs.Common.{◌∙◌, ap, subst, sym, length}
use Rattle.step_tally.specs.Tables.{HasFewOfQueue, row_given}
use Rattle.step_tally.specs.declared.tables.QueueRow.{QueueRow}
use Rattle.step_tally.proofs.GivenRows.{queues_beyond, queues_there}
use Rattle.step_tally.proofs.Pushes.{queue_row_few}
use Rattle.step_tally.proofs.gives.count_gives_at_queue.Goals as goal

pub count_given-requires-clause-few : goal.count_given-requires-clause-few
count_given-requires-clause-few g c =
    subst HasFewOfQueue (sym (c.requires c.args.queue _ c.if-queue-table.true)) (queue_row_few (g.L.StepLog.steps c.args._log.now) c.args.queue (g.met.L.StepLog.short c.args._log.now))

pub returns-then-queue-table-clause-counts : goal.returns-then-queue-table-clause-counts
returns-then-queue-table-clause-counts g c =
    queues_there (g.L.StepLog.steps c.args._log.now) c.args.lane c.args.queue c.args.row.now c.args.table.now c.count_given.new.row c.requires
    (c.count_given.ensures ∙ ap (λ (r : QueueRow). row_given r c.args.lane (length c.args.row.now)) (c.requires c.args.queue _ c.if-queue-table.true))

pub returns-else-queue-table-clause-counts : goal.returns-else-queue-table-clause-counts
returns-else-queue-table-clause-counts g c =
    queues_beyond (g.L.StepLog.steps c.args._log.now) c.args.lane c.args.queue c.args.row.now c.args.table.now c.requires c.if-queue-table.false
