use Rattle.std.proofs.Common.{refl, sym, ◌∙◌, arith}
use Rattle.run_counts.proofs.Most.{table_lacks, table_rises, table_stays, table_still}
use Rattle.run_counts.proofs.waits.count_wait.Goals as goal

pub returns-in_default : goal.returns-in_default
returns-in_default g c =
    record {
      length = refl;
      most = table_still (g.L.StepLog.steps c.args.log.now) c.args.step.now c.args.table.now (sym c.accepting.ensures ∙ c.in_default.is) c.requires.most;
    }

pub returns-then-queue-table-clause-most : goal.returns-then-queue-table-clause-most
returns-then-queue-table-clause-most g c =
    table_lacks (g.L.StepLog.steps c.args.log.now) c.args.step.now c.in-Some.queue c.args.table.now (sym c.accepting.ensures ∙ c.in-Some.is) c.requires.most c.if-queue-table.true

pub returns-then-table-queue-clause-most : goal.returns-then-table-queue-clause-most
returns-then-table-queue-clause-most g c =
    table_rises (g.L.StepLog.steps c.args.log.now) c.args.step.now c.in-Some.queue c.waiting_with_one_more-waiting.result c.args.table.now (sym c.accepting.ensures ∙ c.in-Some.is) c.requires.most (omega (arith, c.if-queue-table.false))
    c.waiting_with_one_more-waiting.ensures c.if-table-queue.true

pub returns-else-table-queue-clause-most : goal.returns-else-table-queue-clause-most
returns-else-table-queue-clause-most g c =
    table_stays (g.L.StepLog.steps c.args.log.now) c.args.step.now c.in-Some.queue c.waiting_with_one_more-waiting.result c.args.table.now (sym c.accepting.ensures ∙ c.in-Some.is) c.requires.most (omega (arith, c.if-queue-table.false))
    c.waiting_with_one_more-waiting.ensures (omega (arith, c.if-table-queue.false))
