use Rattle.std.proofs.Common.{ap, length, subst, sym, ◌∙◌}
use Rattle.std.proofs.lemmas.List.{with_items_is}
use Rattle.run_counts.specs.Waiting.{AreMost, HaveMost}
use Rattle.run_counts.proofs.waits.WaitsStepLog.push_step.Goals as goal

pub count_wait-requires-clause-most : goal.count_wait-requires-clause-most
count_wait-requires-clause-most g c = subst (AreMost (g.L.StepLog.steps c.self.inside.tally)) (sym c.deref_mut.ensures.value) c.self.invariant.most

pub invariant_of-self : goal.invariant_of-self
invariant_of-self g c =
    let now = g.L.StepLog.steps c.push_step.new.self in
    subst (HaveMost now) (sym (with_items_is c.self.inside.most c.count_wait.new.table (c.count_wait.ensures.length ∙ c.deref_mut.ensures.len)))
    (record {
      all = c.count_wait.ensures.length ∙ (ap length c.deref_mut.ensures.value ∙ c.self.invariant.all);
      most = subst (λ T. AreMost T c.count_wait.new.table) (sym c.push_step.ensures.steps) c.count_wait.ensures.most;
    })
