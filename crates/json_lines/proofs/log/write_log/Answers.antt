use Rattle.std.proofs.Common.{◌≡◌, ◌+◌, length, take, refl, sym, ap, ◌∙◌, arith, ◌++◌, ◌∷◌, []}
use Rattle.std.proofs.lemmas.List.{length-take, take_more}
use Rattle.std.proofs.lemmas.List.Elements.{All-get_or}
use Rattle.evt_types.specs.declared.step.Step.{Step}
use Rattle.play_text.specs.Text as texts
use Rattle.play_text.proofs.Counted.{Counts-none, Counts-step, Counts-number, Counts-fits}
use Rattle.json_lines.proofs.Numbered.{lines-step}
use Rattle.json_lines.proofs.log.write_log.Goals as goal

pub loop-step-init : goal.loop-step-init
loop-step-init c = (Counts-none _ _ c.in_ok-counts.ensures, refl)

pub count-number-requires : goal.count-number-requires
count-number-requires c = record {
  there = rw (c.loop-step.invariant.0.there) (rw c.step-item.is (All-get_or (texts.IsInRange (length c.args.queues.now)) c.args.log.now c.loop-step.step-index c.step-item.result c.loop-step-test.true c.requires));
  fits = Counts-fits _ _ _ c.loop-step.invariant.0 (omega (arith, length-take {A = Step}));
}

pub loop-step-preserved : goal.loop-step-preserved
loop-step-preserved c =
    let lt = c.loop-step-test.true in
    let front : take (c.loop-step.step-index + 1) c.args.log.now ≡ take c.loop-step.step-index c.args.log.now ++ c.step-item.result ∷ [] = take_more c.args.log.now c.loop-step.step-index c.step-item.result lt ∙ ap (λ x. take c.loop-step.step-index c.args.log.now ++ x ∷ []) (sym c.step-item.is) in
    let in_range : texts.IsInRange (length c.args.queues.now) c.step-item.result = rw c.step-item.is (All-get_or (texts.IsInRange (length c.args.queues.now)) c.args.log.now c.loop-step.step-index c.step-item.result lt c.requires) in
    let number : c.count-number.result ≡ texts.number_after (take c.loop-step.step-index c.args.log.now) c.step-item.result = c.count-number.ensures.number ∙ Counts-number _ _ _ _ c.loop-step.invariant.0 in_range in (
      rw (c.count-number.ensures.counted, front) (Counts-step _ _ _ _ c.loop-step.invariant.0 in_range),
      lines-step c.args.queues.now c.args.log.now c.loop-step.step-index c.step-item.result _ _ _ lt c.step-item.is (rw (← number) c.in_ok-write_step.ensures) c.loop-step.invariant.1,
    )
