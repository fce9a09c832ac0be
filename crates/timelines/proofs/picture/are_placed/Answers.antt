use Rattle.std.proofs.Common.{◌≡◌, ◌+◌, ◌∷◌, ◌++◌, [], take, refl, sym, ap, ◌∙◌, subst}
use Rattle.std.specs.Prelude.{All}
use Rattle.std.proofs.lemmas.List.{take_all, take_more}
use Rattle.std.proofs.lemmas.List.Elements.{All-push}
use Rattle.timelines.specs.Links.{IsPlaced}
use Rattle.timelines.proofs.picture.are_placed.Goals as goal

pub loop-step-preserved : goal.loop-step-preserved
loop-step-preserved c =
    let placed = IsPlaced c.args.queues c.args.lanes in
    let log = c.args.log.now in
    let index = c.loop-step.step-index in
    let here = c.step-item.result in
    let front : take (index + 1) log ≡ take index log ++ here ∷ [] = take_more log index here c.loop-step-test.true ∙ ap (λ x. take index log ++ x ∷ []) (sym c.step-item.is) in
    subst (All placed) (sym front) (All-push placed (take index log) here c.loop-step.invariant (c.is_placed.ensures.0 c.if-not-is_placed.false))

pub returns : goal.returns
returns c =
    (λ e. subst (All (IsPlaced c.args.queues c.args.lanes)) (take_all c.loop-step.step-index c.args.log.now c.loop-step-test.false) c.loop-step.invariant, λ h. refl)
