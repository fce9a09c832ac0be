use Rattle.std.proofs.Common.{ap, sym, ◌∙◌}
use Rattle.event_device.specs.Listed.{turned_all}
use Rattle.event_device.proofs.BookRows.{forwards_turned_all}
use Rattle.event_device.proofs.books.BooksStepLog.push_forwards.Goals as goal

pub invariant_of-self : goal.invariant_of-self
invariant_of-self g c =
    record {
      turned_are = c.args.self.now.turned_are ∙ sym (ap turned_all c.push_forwards.ensures.steps ∙ forwards_turned_all (g.L.StepLog.steps c.args.self.now.log) c.args.lane c.args.source c.args.numbers.now c.args.replies.now);
    }
