use Rattle.std.proofs.Common.{◌+◌, ap, arith, ◌∙◌}
use Rattle.run_counts.proofs.Most.{came_is, few_came}
use Rattle.step_tally.specs.declared.counts.QueueCounts.{QueueCounts}
use Rattle.run_counts.proofs.waits.came_to.Goals as goal

pub overflow_add-result : goal.overflow_add-result
overflow_add-result g c =
    let sum = ap (λ (x : QueueCounts). x.rx_new + x.rx_forwarded) c.queue-counts.ensures in
    omega (arith, sum, few_came (g.L.StepLog.steps c.args.log.now) c.args.queue (g.met.L.StepLog.short c.args.log.now))

pub returns-clause-value : goal.returns-clause-value
returns-clause-value g c =
    ap (λ (x : QueueCounts). x.rx_new + x.rx_forwarded) c.queue-counts.ensures ∙ came_is (g.L.StepLog.steps c.args.log.now) c.args.queue

pub returns-clause-few : goal.returns-clause-few
returns-clause-few g c =
    let sum = ap (λ (x : QueueCounts). x.rx_new + x.rx_forwarded) c.queue-counts.ensures in
    omega (arith, sum, few_came (g.L.StepLog.steps c.args.log.now) c.args.queue (g.met.L.StepLog.short c.args.log.now))
