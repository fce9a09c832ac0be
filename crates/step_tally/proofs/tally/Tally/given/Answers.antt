use Rattle.std.proofs.Common.{ap, ◌∙◌, slice_index_or, arith}
use Rattle.step_tally.specs.Counts.{given_to}
use Rattle.step_tally.specs.declared.tables.QueueRow.{QueueRow}
use Rattle.step_tally.proofs.Pushes.{given_row-at}
use Rattle.step_tally.proofs.tally.Tally.given.Goals as goal

pub returns : goal.returns
returns g c =
    let row = c.self.invariant.queues c.args.queue c.index.result.now (omega (arith, c.self.invariant.all_queues, c.requires.queue)) in
    let here = given_row-at (g.L.StepLog.steps c.self.inside.log) c.args.queue c.args.port 0 c.requires.port in
    ap (λ (r : QueueRow). slice_index_or r.given c.args.port 0) (c.index.ensures ∙ row)
    ∙ (here ∙ ap (λ log. given_to (g.L.StepLog.steps log) c.args.queue c.args.port) c.self.view_is)
