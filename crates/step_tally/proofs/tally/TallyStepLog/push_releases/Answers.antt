use Rattle.std.proofs.Common.{ap, length, subst, sym, ◌∙◌}
use Rattle.std.proofs.lemmas.List.{with_items_is}
use Rattle.step_tally.specs.Tables.{AreTables, queue_row}
use Rattle.step_tally.proofs.RowCounts.{counts_same, releases_row}
use Rattle.step_tally.proofs.tally.TallyStepLog.push_releases.Goals as goal

pub invariant_of-self : goal.invariant_of-self
invariant_of-self g c =
    let was = g.L.StepLog.steps c.self.inside.log in
    let now = g.L.StepLog.steps c.push_releases.new.self in
    subst (AreTables now c.self.inside.queues.items) (sym (with_items_is c.self.inside.lanes c.count_releases.new.table (c.count_releases.ensures.length ∙ c.deref_mut.ensures.len)))
    (record {
      all_queues = c.self.invariant.all_queues;
      all_lanes = c.count_releases.ensures.length ∙ (ap length c.deref_mut.ensures.value ∙ c.self.invariant.all_lanes);
      queues = counts_same (queue_row was) (queue_row now) c.self.inside.queues.items c.self.invariant.queues
          (λ k. ap (λ U. queue_row U k) c.push_releases.ensures.steps ∙ releases_row c.args.lane c.args.count was k);
      lanes = c.count_releases.ensures.counts;
    })
