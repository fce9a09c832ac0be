use Rattle.std.proofs.Common.{ap, subst, sym, ◌∙◌}
use Rattle.run_counts.proofs.Most.{have_none}
use Rattle.run_counts.specs.Waiting.{HaveMost}
use Rattle.run_counts.proofs.waits.Waits.new.Goals as goal

pub invariant_of-result : goal.invariant_of-result
invariant_of-result g c =
    subst (λ T. HaveMost T c.in-Ok.most.items) (sym (ap g.L.StepLog.steps c.in_ok-tally.ensures.made ∙ c.requires)) (have_none c.in-Ok.most.items c.in-Ok.ensures)
