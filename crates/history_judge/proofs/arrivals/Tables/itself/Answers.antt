use Rattle.std.proofs.Common.{◌∙◌, sym}
use Rattle.history_judge.proofs.Arriving.{came_sent, none_sent}
use Rattle.history_judge.proofs.InOrder.{entry_at}
use Rattle.history_judge.proofs.arrivals.Tables.itself.Goals as goal

pub returns-clause-some : goal.returns-clause-some
returns-clause-some c = came_sent c.args.shape.now c.args.history.now c.args.self.now c.requires.ready c.args.at c.index-history-at.result (entry_at c.args.history.now c.args.at c.index-history-at.result c.requires.place c.index-history-at.is) c.in_ok-event.event c.arrival.result (sym c.only_new.ensures ∙ c.in_ok-event.was) c.arrival.ensures

pub returns-clause-none : goal.returns-clause-none
returns-clause-none c = none_sent c.args.shape.now c.args.history.now c.args.self.now c.requires.ready c.args.at c.index-history-at.result (entry_at c.args.history.now c.args.at c.index-history-at.result c.requires.place c.index-history-at.is) c.in_ok-event.event c.arrival.result (sym c.only_new.ensures ∙ c.in_ok-event.was) c.arrival.ensures
