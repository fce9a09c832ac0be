use Rattle.std.proofs.Common.{subst, take}
use Rattle.std.proofs.lemmas.List.{take_all}
use Rattle.transcript_judge.proofs.Readings.{broken_at, lawful_now, running}
use Rattle.transcript_judge.proofs.Walks.{at_some}
use Rattle.transcript_judge.specs.Reading.{IsFollowed, IsRead}
use Rattle.transcript_judge.proofs.judging.judge.Goals as goal

pub returns-in-Some : goal.returns-in-Some
returns-in-Some c =
    broken_at c.args.shape.now c.args.steps.now c.loop-at.at c.in-Some.clause c.index-steps-at.result c.loop-at.reading c.loop-at.invariant
    (at_some c.args.steps.now c.loop-at.at c.index-steps-at.result c.loop-at-test.true c.index-steps-at.is)
    (subst (λ o. IsFollowed c.args.shape.now (take c.loop-at.at c.args.steps.now) c.index-steps-at.result o c.follow.new.self) c.in-Some.is c.in_ok-clause.ensures)

pub returns-then-is_due : goal.returns-then-is_due
returns-then-is_due c = running c.args.shape.now c.args.steps.now c.loop-at.reading (subst (λ T. IsRead c.args.shape.now T c.loop-at.reading) (take_all c.loop-at.at c.args.steps.now c.loop-at-test.false) c.loop-at.invariant) (c.is_due.ensures.some c.if-is_due.true)

pub returns : goal.returns
returns c = lawful_now c.args.shape.now c.args.steps.now c.loop-at.reading (subst (λ T. IsRead c.args.shape.now T c.loop-at.reading) (take_all c.loop-at.at c.args.steps.now c.loop-at-test.false) c.loop-at.invariant) (c.is_due.ensures.none c.if-is_due.false)
