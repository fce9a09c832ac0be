use Rattle.std.proofs.Common.{ap, arith, take, ◌∙◌}
use Rattle.std.proofs.lemmas.List.{length-take, length-take-le}
use Rattle.transcripts.specs.Standing.{after, kept_in}
use Rattle.step_log.specs.Rows.{news_steps}
use Rattle.sched_core.proofs.Rows.{news_count, news_kept, news_turned, row_taken}
use Rattle.sched_core.proofs.state.Core.take_news.Goals as goal

pub returns : goal.returns
returns g c =
    let n = c.news-count.result in
    let q = c.from-queue.result in
    let rs = take n c.args.replies.now in
    let accepted = c.accept_row.ensures in
    let ends = accepted.view ∙ ap (after c.args.self.now) accepted.steps in
    let now = row_taken c.args.self.now c.accept_row.new.self c.args.lane rs (news_steps c.args.lane q rs) n accepted.may accepted.steps ends
    (news_count c.args.lane q rs ∙ length-take-le n c.args.replies.now c.news-count.ensures.few) (news_turned c.args.lane q rs) in
    record {
      few = c.news-count.ensures.few;
      may = now.may;
      view = now.view;
      logged = accepted.logged;
      stands = now.stands;
      accepted = now.accepted;
      turned = now.turned;
      shape = now.shape;
      kept = ap kept_in ends ∙ news_kept c.args.lane q rs c.args.self.now;
      room = omega (arith, accepted.room, length-take n c.args.replies.now);
    }
