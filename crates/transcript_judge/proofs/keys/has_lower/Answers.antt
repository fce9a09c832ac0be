use Rattle.transcript_judge.specs.Waiting as waiting
use Rattle.transcript_judge.proofs.Trees.{lower_found, lower_within}
use Rattle.transcript_judge.proofs.keys.has_lower.Goals as goal

pub returns-in-Some-clause-some : goal.returns-in-Some-clause-some
returns-in-Some-clause-some c = λ _.
    lower_found c.args.keys.now c.args.class c.args.number c.key_in-first.result c.key_in-end.result _ _ _ c.key_in-first.ensures c.key_in-end.ensures
    ((c.range.ensures.in_range tt).0) c.in-Some.ensures.steps

pub returns-in-None-clause-none : goal.returns-in-None-clause-none
returns-in-None-clause-none c = λ _ m lt.
    (c.range.ensures.in_range tt).5 (c.in-None.ensures.steps.0) (waiting.key_in c.args.class m)
    (lower_within c.args.class c.args.number m c.key_in-first.result c.key_in-end.result c.key_in-first.ensures c.key_in-end.ensures lt)
