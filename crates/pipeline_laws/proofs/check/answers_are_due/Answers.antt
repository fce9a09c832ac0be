use Rattle.std.proofs.Common.{take}
use Rattle.pipeline_laws.proofs.Readings.{reading_none, reading_place, reading_more, reading_strays, reading_all}
use Rattle.pipeline_laws.proofs.check.answers_are_due.Goals as goal

pub loop-step-init : goal.loop-step-init
loop-step-init c = reading_none c.args.queues c.args.lanes c.args.actions.now c.args.log.now c.in_ok-past.past c.in_ok-past.ensures.sizes c.in_ok-past.ensures.follows

pub follow-requires-clause-place : goal.follow-requires-clause-place
follow-requires-clause-place c =
    reading_place c.args.queues c.args.lanes c.args.actions.now c.args.log.now c.loop-step.step-index c.loop-step.past c.step-item.result c.requires.log c.loop-step.invariant c.loop-step-test.true c.step-item.is

pub returns-then-not-branch : goal.returns-then-not-branch
returns-then-not-branch c =
    reading_strays c.args.queues c.args.lanes c.args.actions.now c.args.log.now c.loop-step.step-index c.step-item.result c.in_ok-follow.field-0 c.requires.log c.loop-step-test.true c.step-item.is
    (c.in_ok-follow.ensures.due (take c.loop-step.step-index c.args.log.now) c.loop-step.invariant.follows) c.if-not-branch.true

pub loop-step-preserved : goal.loop-step-preserved
loop-step-preserved c =
    reading_more c.args.queues c.args.lanes c.args.actions.now c.args.log.now c.loop-step.step-index c.loop-step.past c.follow.new.self c.step-item.result c.in_ok-follow.field-0 c.requires.log
    c.loop-step.invariant c.loop-step-test.true c.step-item.is
    (c.in_ok-follow.ensures.sizes c.args.queues c.args.lanes c.loop-step.invariant.sizes)
    (c.in_ok-follow.ensures.follows (take c.loop-step.step-index c.args.log.now) c.loop-step.invariant.follows)
    (c.in_ok-follow.ensures.due (take c.loop-step.step-index c.args.log.now) c.loop-step.invariant.follows) c.if-not-branch.false

pub returns : goal.returns
returns c = reading_all c.args.queues c.args.lanes c.args.actions.now c.args.log.now c.loop-step.step-index c.loop-step.past c.loop-step.invariant c.loop-step-test.false
