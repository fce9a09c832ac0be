use Rattle.step_tally.proofs.DealtRows.{queues_dealt, queues_missed}
use Rattle.step_tally.proofs.gives.count_deals_at_queue.Goals as goal

pub count_dealt-requires-clause-counts : goal.count_dealt-requires-clause-counts
count_dealt-requires-clause-counts g c = c.requires.counts c.args.queue _ c.if-queue-table.true

pub returns-then-queue-table-clause-counts : goal.returns-then-queue-table-clause-counts
returns-then-queue-table-clause-counts g c =
    queues_dealt (g.L.StepLog.steps c.args.log.now) c.args.queue c.args.row.now c.args.lanes.now c.args.table.now c.requires.counts c.count_dealt.new.counted c.count_dealt.ensures

pub returns-else-queue-table-clause-counts : goal.returns-else-queue-table-clause-counts
returns-else-queue-table-clause-counts g c =
    queues_missed (g.L.StepLog.steps c.args.log.now) c.args.queue c.args.row.now c.args.lanes.now c.args.table.now c.requires.counts c.if-queue-table.false
