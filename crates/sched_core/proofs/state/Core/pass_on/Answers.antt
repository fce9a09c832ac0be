use Rattle.std.proofs.Common.{◌<◌, ◌≤◌, length, sym, subst}
use Rattle.transcripts.specs.Standing.{View}
use Rattle.sched_core.specs.Settling.{IsTurn, flush_steps}
use Rattle.sched_core.proofs.state.Core.pass_on.Goals as goal

pub pass_all-requires-clause-queue : goal.pass_all-requires-clause-queue
pass_all-requires-clause-queue g c = subst (λ (v : View). c.args.queue < length v.shape.queues) (sym c.in-None.ensures.same) c.requires.queue

pub pass_all-requires-clause-room : goal.pass_all-requires-clause-room
pass_all-requires-clause-room g c =
    subst (λ log. length (flush_steps c.pass_plain.new.self c.args.queue) ≤ g.L.StepLog.room log) (sym c.in-None.ensures.logged)
    (subst (λ v. length (flush_steps v c.args.queue) ≤ g.L.StepLog.room c.args.log.now) (sym c.in-None.ensures.same) c.requires.room)

pub returns-in-None-clause-turn : goal.returns-in-None-clause-turn
returns-in-None-clause-turn g c =
    subst (λ v. IsTurn c.args.queue c.args.answered v (g.L.StepLog.steps c.args.log.now) c.pass_all.new.self (g.L.StepLog.steps c.pass_all.new.log) c.pass_all.result) c.in-None.ensures.same
    (subst (λ log. IsTurn c.args.queue c.args.answered c.pass_plain.new.self (g.L.StepLog.steps log) c.pass_all.new.self (g.L.StepLog.steps c.pass_all.new.log) c.pass_all.result) c.in-None.ensures.logged c.pass_all.ensures.turn)
