use Rattle.std.proofs.Common.{◌++◌, ap, sym, ◌∙◌}
use Rattle.sched_core.proofs.Rows.{news_room, news_taken}
use Rattle.sched_core.proofs.state.Core.accept_row.Goals as goal

pub wait_row-requires-clause-room : goal.wait_row-requires-clause-room
wait_row-requires-clause-room g c = news_room c.args.self.now c.args.lane c.args.queue c.args.level.number c.args.replies.now c.requires.row

pub returns : goal.returns
returns g c =
    let now = news_taken c.args.replies.now c.self.inside c.args.self.now c.wait_row.new.self c.args.lane c.args.queue c.args.level.number c.self.invariant c.self.view_is c.args.level.few c.requires.lane c.requires.row c.wait_row.ensures in
    record {
      may = now.may;
      view = now.view;
      steps = now.steps;
      logged = c.push_news.ensures.steps ∙ ap (λ ss. g.L.StepLog.steps c.args.log.now ++ ss) (sym now.steps);
      room = c.push_news.ensures.room;
    }
