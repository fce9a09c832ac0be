use Rattle.std.proofs.Common.{◌<◌, length, slice_index, refl, ap, arith, subst, sym, ◌∙◌}
use Rattle.run_counts.proofs.Most.{any_default}
use Rattle.run_counts.specs.Waiting.{IsMost}
use Rattle.step_tally.specs.declared.counts.QueueCounts.{QueueCounts}
use Rattle.transcripts.specs.Transcript.{accepted, hand}
use Rattle.run_counts.proofs.waits.Waits.queue.Goals as goal

pub returns : goal.returns
returns g c =
    let steps = g.L.StepLog.steps in
    let q = c.args.queue in
    let within : q < length c.self.inside.most.items = omega (arith, c.self.invariant.all, c.requires) in
    record {
      queue = refl;
      came = c.came_to.ensures.value ∙ ap (λ log. length (accepted (steps log) q)) c.self.view_is;
      given = ap (λ (x : QueueCounts). x.tx) c.queue.ensures ∙ ap (λ log. length (hand (steps log) q)) c.self.view_is;
      most = subst (IsMost (steps c.args.self.now) q) (any_default c.self.inside.most.items q 0 c.index.result.now within ∙ sym c.index.ensures)
          (subst (λ log. IsMost (steps log) q (slice_index c.self.inside.most.items q)) c.self.view_is (c.self.invariant.most q within));
    }
