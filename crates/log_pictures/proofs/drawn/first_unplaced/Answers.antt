use Rattle.std.proofs.Common.{◌≡◌, ℕ, ◌+◌, [], ◌∷◌, ◌++◌, take, drop, length-take, sym, ap, ◌∙◌, subst, arith, true≢false, take-append-drop}
use Rattle.std.specs.Prelude.{All}
use Rattle.std.proofs.lemmas.List.{take_all, take_more, drop_more}
use Rattle.std.proofs.lemmas.List.Elements.{All-push}
use Rattle.evt_types.specs.declared.step.Step.{Step}
use Rattle.timelines.specs.Links.{IsPlaced}
use Rattle.log_pictures.proofs.drawn.first_unplaced.Goals as goal

-- one step that is placed, as a list
alone : (qs ls : ℕ) (s : Step) → IsPlaced qs ls s → All (IsPlaced qs ls) (s ∷ [])
alone qs ls s h = All-push (IsPlaced qs ls) [] s (λ k d lt. absurd (omega (arith, lt))) h

pub returns-then-not-are_placed-clause-some : goal.returns-then-not-are_placed-clause-some
returns-then-not-are_placed-clause-some c =
    let placed = IsPlaced c.args.queues c.args.lanes in
    let log = c.args.log.now in
    let at = c.loop-at.at in
    let here = c.index-log-at.result in
    let rest : drop at log ≡ here ∷ drop (at + 1) log = drop_more log at here c.loop-at-test.true ∙ ap (λ s. s ∷ drop (at + 1) log) (sym c.index-log-at.is) in
    record {
      past = take at log;
      step = here;
      rest = drop (at + 1) log;
      whole = sym (take-append-drop at log) ∙ ap (λ xs. take at log ++ xs) rest;
      place = omega (arith, length-take {A = Step} at log, c.loop-at-test.true);
      placed = c.loop-at.invariant;
      unplaced = λ h. true≢false (sym (c.are_placed.ensures.1 (subst (All placed) (sym c.from_ref.ensures.value) (alone c.args.queues c.args.lanes here h))) ∙ c.if-not-are_placed.true);
    }

pub loop-at-preserved : goal.loop-at-preserved
loop-at-preserved c =
    let placed = IsPlaced c.args.queues c.args.lanes in
    let log = c.args.log.now in
    let at = c.loop-at.at in
    let here = c.index-log-at.result in
    let front : take (at + 1) log ≡ take at log ++ here ∷ [] = take_more log at here c.loop-at-test.true ∙ ap (λ s. take at log ++ s ∷ []) (sym c.index-log-at.is) in
    let one : All placed (here ∷ []) = subst (All placed) c.from_ref.ensures.value (c.are_placed.ensures.0 c.if-not-are_placed.false) in
    subst (All placed) (sym front) (All-push placed (take at log) here c.loop-at.invariant (one 0 here (omega arith)))

pub returns-clause-none : goal.returns-clause-none
returns-clause-none c e = subst (All (IsPlaced c.args.queues c.args.lanes)) (take_all c.loop-at.at c.args.log.now c.loop-at-test.false) c.loop-at.invariant
