use Rattle.std.proofs.Common.{◌<◌, slice_index, sym, ◌∙◌, subst, ap, arith}
use Rattle.std.proofs.lemmas.Bool.{ltb-true}
use Rattle.transcripts.specs.Standing.{View}
use Rattle.sched_core.proofs.FirstOnes.{found_first, found_slot, offer_slot, slots_within}
use Rattle.sched_core.proofs.News.{slots_range}
use Rattle.sched_core.proofs.Offers.{all_allowed, offer_in, offer_made}
use Rattle.sched_core.proofs.Runs.{made_in_turn}
use Rattle.std.specs.Option.{IfSome}
use Rattle.sched_core.specs.Runs.{IsTurn}
use Rattle.sched_core.proofs.Cores.{limits_here}
use Rattle.sched_core.proofs.state.Core.offer_at.Goals as goal

pub flow_for-requires-clause-slot : goal.flow_for-requires-clause-slot
flow_for-requires-clause-slot c = let waits = c.in_ok-found.ensures.waits in omega (arith, c.in_ok-found.ensures.slot, waits.some, waits.few)

pub returns-clause-choice : goal.returns-clause-choice
returns-clause-choice c =
    let v : View = c.args.self.now in
    let s = c.args.skips.now in
    let q = c.in_ok-queue.field-0.queue in
    let level = c.in_ok-queue.field-0.level.number in
    let told : IsTurn v s c.in_ok-queue.field-0 = subst (λ o. IfSome o (IsTurn v s)) c.in_ok-queue.was c.requires in
    let turn = told.1 in
    let limits = limits_here c.self.inside v c.self.invariant c.self.view_is in
    let few = (slots_range v.shape q limits turn.there).1 in
    let found = c.in_ok-found.found in
    let lane = c.in_ok-lane.lane in
    made_in_turn v s q level c.of.result turn (subst (λ n. slice_index s.given q < n) (c.sweep.ensures.value ∙ ap (λ (u : View). u.shape.sweep) c.self.view_is) (ltb-true _ _ (sym c.has_quota.ensures.value ∙ c.if-not-has_quota.false)))
    (offer_made v s q level lane found.waiting c.of.result c.of.ensures.lane (c.of.ensures.queue ∙ c.in_ok-found.ensures.names) c.of.ensures.event
    (offer_in v s q level lane found.slot c.below.result found.waiting
    (all_allowed v s q c.below.result (λ slot within. (c.below.ensures slot).1 (omega (arith, few, within))))
    (slots_within v q limits turn.there)
    (found_first c.self.inside v q c.self.invariant c.self.view_is turn.there level c.below.result found.waiting c.in_ok-found.ensures.first)
    (found_slot c.self.inside v q c.self.invariant c.self.view_is turn.there found.slot found.waiting c.in_ok-found.ensures.slot)
    c.in_ok-lane.ensures.fits c.in_ok-lane.ensures.best))

pub returns-clause-slot : goal.returns-clause-slot
returns-clause-slot c =
    let v : View = c.args.self.now in
    let told : IsTurn v c.args.skips.now c.in_ok-queue.field-0 = subst (λ o. IfSome o (IsTurn v c.args.skips.now)) c.in_ok-queue.was c.requires in
    let found = c.in_ok-found.found in
    offer_slot c.self.inside v c.in_ok-queue.field-0.queue c.self.invariant c.self.view_is told.1.there found.slot found.waiting c.of.result c.in_ok-found.ensures.slot c.of.ensures.slot (c.of.ensures.queue ∙ c.in_ok-found.ensures.names) c.of.ensures.event
