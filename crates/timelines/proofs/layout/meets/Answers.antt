use Rattle.std.proofs.Common.{sym, ap, ◌∙◌}
use Rattle.std.specs.Prelude.{count_by, nat_lt}
use Rattle.std.proofs.lemmas.List.{take_all}
use Rattle.timelines.proofs.layout.meets.Goals as goal

pub returns-then-next-le-NEXT_BARS-clause-value : goal.returns-then-next-le-NEXT_BARS-clause-value
returns-then-next-le-NEXT_BARS-clause-value c =
    c.count_before.ensures.value ∙ sym (ap (count_by (λ k. nat_lt k c.args.end)) (take_all 23 c.args.next.now c.if-next-le-NEXT_BARS.true))
