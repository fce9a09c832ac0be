use Rattle.std.proofs.Common.{rules, ◌++◌, ap, arith, refl, sym, take, ◌∙◌}
use Rattle.std.proofs.lemmas.List.{length-take}
use Rattle.sched_core.proofs.Answering.{oldest_first}
use Rattle.sched_core.proofs.Forwarded.{taken_releases}
use Rattle.sched_core.proofs.Released.{replies_held}
use Rattle.sched_core.proofs.Rows.{IsRowTaken}
use Rattle.sched_core.specs.Inner.{unplaced}
use Rattle.step_log.specs.Rows.{release_steps}
use Rattle.sched_core.proofs.state.Core.take_releases.Given as given
use Rattle.sched_core.proofs.state.Core.take_releases.Goals as goal
use Rattle.sched_core.proofs.state.Core.take_releases.Goals.{After-answer_releases-count}

-- what holds once the row is answered
taken : (g : given.Over) (c : After-answer_releases-count g)
    → IsRowTaken c.args.self.now c.answer_releases-count.new.self c.args.lane (take c.answer_releases-count.result c.args.replies.now) (release_steps c.args.lane c.answer_releases-count.result) 0
taken g c =
    taken_releases c.args.self.now c.args.lane c.oldest-queue.result.queue c.answer_releases-count.result c.min-most.result c.in-Some.first.now.event c.args.replies.now c.answer_releases-count.ensures.few
    (replies_held c.self.inside c.args.self.now c.args.lane c.min-most.result c.args.replies.now c.self.invariant c.self.view_is c.requires.lane (omega (arith, c.len.ensures))) c.answer_releases-count.ensures.like
    c.answer_releases-count.new.self c.requires.lane c.answer_releases-count.ensures.let_go (search rules) c.answer_releases-count.ensures.view

pub answer_releases-count-requires-clause-oldest : goal.answer_releases-count-requires-clause-oldest
answer_releases-count-requires-clause-oldest g c =
    (unplaced c.oldest-queue.result, oldest_first c.self.inside c.args.self.now c.args.lane c.oldest-queue.result c.self.invariant c.self.view_is c.requires.lane c.oldest-queue.ensures, refl)

pub answer_releases-count-requires-clause-most : goal.answer_releases-count-requires-clause-most
answer_releases-count-requires-clause-most g c =
    replies_held c.self.inside c.args.self.now c.args.lane c.min-most.result c.args.replies.now c.self.invariant c.self.view_is c.requires.lane (omega (arith, c.len.ensures))

pub returns : goal.returns
returns g c =
    let now = taken g (goal.at.returns g c).After-answer_releases-count in
    record {
      few = omega (arith, c.answer_releases-count.ensures.few, length-take c.min-most.result c.args.replies.now);
      may = now.may;
      view = now.view;
      logged = c.push_releases.ensures.steps ∙ ap (λ ss. g.L.StepLog.steps c.args.log.now ++ ss) (sym now.steps);
      stands = now.stands;
      accepted = now.accepted;
      turned = now.turned;
      shape = now.shape;
      kept = c.answer_releases-count.ensures.kept;
      room = c.push_releases.ensures.room;
    }
