use Rattle.std.proofs.Common.{◌≡◌, ◌+◌, ◌∷◌, ◌++◌, [], length, take, sym, ap, ◌∙◌, subst}
use Rattle.std.proofs.lemmas.List.{take_all, take_more}
use Rattle.std.proofs.lemmas.List.Elements.{All-get_or}
use Rattle.timelines.proofs.Readings.{Follows, follows_begun, follows_counted, follows_ends, follows_none, follows_step}
use Rattle.timelines.specs.Links.{IsPlaced}
use Rattle.timelines.proofs.links.Links.of.Goals as goal

pub loop-step-init : goal.loop-step-init
loop-step-init c = follows_none c.args.queues c.args.lanes (length c.args.log.now) c.in_ok-found.found c.in_ok-found.ensures

pub follow-requires-clause-counted : goal.follow-requires-clause-counted
follow-requires-clause-counted c = follows_counted c.args.queues c.args.lanes (length c.args.log.now) (take c.loop-step.step-index c.args.log.now) c.loop-step.found c.loop-step.invariant

pub loop-step-preserved : goal.loop-step-preserved
loop-step-preserved c =
    let log = c.args.log.now in
    let index = c.loop-step.step-index in
    let here = c.step-item.result in
    let lt = c.loop-step-test.true in
    let front : take (index + 1) log ≡ take index log ++ here ∷ [] = take_more log index here lt ∙ ap (λ x. take index log ++ x ∷ []) (sym c.step-item.is) in
    let at : IsPlaced c.args.queues c.args.lanes here = rw c.step-item.is (All-get_or (IsPlaced c.args.queues c.args.lanes) log index here lt c.requires.placed) in
    subst (λ T. Follows c.args.queues c.args.lanes (length log) T c.follow.new.self) (sym front)
    (follows_step c.args.queues c.args.lanes (length log) (take index log) here c.loop-step.found c.follow.new.self c.loop-step.invariant at c.in_ok-follow.ensures)

pub returns-clause-begun : goal.returns-clause-begun
returns-clause-begun c =
    let log = c.args.log.now in
    let all : take c.loop-step.step-index log ≡ log = take_all c.loop-step.step-index log c.loop-step-test.false in
    let f : Follows c.args.queues c.args.lanes (length log) log c.loop-step.found = subst (λ T. Follows c.args.queues c.args.lanes (length log) T c.loop-step.found) all c.loop-step.invariant in
    follows_begun c.args.queues c.args.lanes (length log) log c.loop-step.found f

pub returns-clause-ends : goal.returns-clause-ends
returns-clause-ends c =
    let log = c.args.log.now in
    let all : take c.loop-step.step-index log ≡ log = take_all c.loop-step.step-index log c.loop-step-test.false in
    let f : Follows c.args.queues c.args.lanes (length log) log c.loop-step.found = subst (λ T. Follows c.args.queues c.args.lanes (length log) T c.loop-step.found) all c.loop-step.invariant in
    follows_ends c.args.queues c.args.lanes log c.loop-step.found f
