use Rattle.std.proofs.Common.{◌≡◌, ◌+◌, ◌++◌, ◌∷◌, [], take, sym, ap, ◌∙◌, arith}
use Rattle.std.proofs.lemmas.List.{length-take, take_more}
use Rattle.std.proofs.lemmas.List.Elements.{All-get_or}
use Rattle.evt_types.specs.declared.step.Step.{Step}
use Rattle.play_text.specs.Text.{IsInRange}
use Rattle.play_text.proofs.Counted.{Counts-none, Counts-step, Counts-fits}
use Rattle.judge_app.proofs.words.number_of.Goals as goal

pub loop-earlier-init : goal.loop-earlier-init
loop-earlier-init c = Counts-none _ _ c.in_ok-counts.ensures

pub count-requires-clause-fits : goal.count-requires-clause-fits
count-requires-clause-fits c = Counts-fits _ _ _ c.loop-earlier.invariant (omega (arith, length-take {A = Step}))

pub loop-earlier-preserved : goal.loop-earlier-preserved
loop-earlier-preserved c =
    let lt = c.loop-earlier-test.true in
    let front : take (c.loop-earlier.earlier-index + 1) c.args.past.now ≡ take c.loop-earlier.earlier-index c.args.past.now ++ c.earlier-item.result ∷ [] =
    take_more c.args.past.now c.loop-earlier.earlier-index c.earlier-item.result lt ∙ ap (λ x. take c.loop-earlier.earlier-index c.args.past.now ++ x ∷ []) (sym c.earlier-item.is) in
    let there : IsInRange c.args.queues c.earlier-item.result = rw c.earlier-item.is (All-get_or (IsInRange c.args.queues) c.args.past.now c.loop-earlier.earlier-index c.earlier-item.result lt c.requires.past) in
    rw (c.count.ensures.counted, front) (Counts-step _ _ _ _ c.loop-earlier.invariant there)

pub count-requires-2-clause-fits : goal.count-requires-2-clause-fits
count-requires-2-clause-fits c = Counts-fits _ _ _ c.loop-earlier.invariant (omega (arith, length-take {A = Step}))
