use Rattle.std.proofs.Common.{[], ap, ◌∙◌, arith, replicate}
use Rattle.transcript_judge.proofs.RowLists.{rows_none_more}
use Rattle.transcript_judge.proofs.nested.empty_lists.Goals as goal

pub loop-preserved : goal.loop-preserved
loop-preserved g c = rows_none_more c.loop.lists.items c.push.new.self.items c.new.result c.loop.counter c.in_ok-push.ensures.items c.new.ensures.items c.loop.invariant

pub returns : goal.returns
returns g c = c.loop.invariant ∙ ap (λ n. replicate n []) (omega (arith, c.loop-test.false, c.loop.auto.counter-end))
