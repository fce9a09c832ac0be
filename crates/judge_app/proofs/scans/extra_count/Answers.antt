use Rattle.std.proofs.Common.{◌≡◌, ◌+◌, ◌++◌, ◌∷◌, [], length, take, refl, ap, ◌∙◌, sym, arith}
use Rattle.std.proofs.lemmas.List.{take_more}
use Rattle.transcripts.specs.Transcript.{extras}
use Rattle.transcripts.proofs.Pushes.{extras-push}
use Rattle.judge_app.proofs.scans.extra_count.Goals as goal

pub loop-step-init : goal.loop-step-init
unfolding extras
loop-step-init c = record { value = refl; few = omega arith }

pub loop-step-preserved : goal.loop-step-preserved
loop-step-preserved c =
    let front : take (c.loop-step.step-index + 1) c.args.past.now ≡ take c.loop-step.step-index c.args.past.now ++ c.step-item.result ∷ [] =
    take_more c.args.past.now c.loop-step.step-index c.step-item.result c.loop-step-test.true ∙ ap (λ x. take c.loop-step.step-index c.args.past.now ++ x ∷ []) (sym c.step-item.is) in
    record {
      value = c.extras_after-count.ensures.value (extras (take c.loop-step.step-index c.args.past.now) c.args.lane) (sym c.loop-step.invariant.value) ∙ ap length (sym (extras-push (take c.loop-step.step-index c.args.past.now) c.args.lane c.step-item.result) ∙ ap (λ P. extras P c.args.lane) (sym front));
      few = omega arith;
    }
