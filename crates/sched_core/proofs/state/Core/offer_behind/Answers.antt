use Rattle.std.proofs.Common.{◌≡◌, ℕ, ◌∙◌, ap, subst, sym}
use Rattle.transcripts.specs.Choice.{IsBetterLane}
use Rattle.transcripts.specs.Standing.{View}
use Rattle.sched_core.proofs.FirstOnes.{found_first, found_none, found_slot, offer_slot, slots_within, with_queues}
use Rattle.sched_core.proofs.Offers.{allowed_rest, none_in, offer_in, offer_made}
use Rattle.sched_core.specs.Offered.{AreOpenLanes, FitsSlot}
use Rattle.sched_core.specs.View.{view_in, IsCore}
use Rattle.sched_core.specs.declared.state.Core.TheInside.{Inside}
use Rattle.sched_core.proofs.Cores.{limits_here}
use Rattle.sched_core.proofs.state.Core.offer_behind.Goals as goal

pub invariant_of-self : goal.invariant_of-self
invariant_of-self c = subst (λ qs. IsCore (with_queues c.self.inside qs)) (sym c.in-Some.ensures.same) c.self.invariant

pub lane_for-requires-clause-lanes : goal.lane_for-requires-clause-lanes
lane_for-requires-clause-lanes c =
    let a : Inside = c.self.inside in
    let now : view_in (with_queues a c.first.new.self) ≡ c.args.self.now = ap (λ qs. view_in (with_queues a qs)) c.in-Some.ensures.same ∙ (c.self.view_is ∙ c.loop-found.invariant.0) in
    subst (λ u. AreOpenLanes u c.args.skips.now c.args.queue c.args.lanes) (sym now) c.requires.lanes

pub returns-in-Some-lane_for-clause-offer : goal.returns-in-Some-lane_for-clause-offer
returns-in-Some-lane_for-clause-offer c =
    let v : View = c.args.self.now in
    let s = c.args.skips.now in
    let q = c.args.queue in
    let found = c.in-Some.found in
    let lane = c.in-Some-lane_for.lane in
    let a : Inside = c.self.inside in
    let view : view_in a ≡ v = c.self.view_is ∙ c.loop-found.invariant.0 in
    let limits = limits_here c.self.inside v c.self.invariant view in
    let now : view_in (with_queues a c.first.new.self) ≡ v = ap (λ qs. view_in (with_queues a qs)) c.in-Some.ensures.same ∙ view in
    offer_made v s q c.args.level.number lane found.waiting c.of.result c.of.ensures.lane (c.of.ensures.queue ∙ c.in-Some.ensures.names) c.of.ensures.event
    (offer_in v s q c.args.level.number lane found.slot c.loop-found.left found.waiting c.loop-found.invariant.1 (slots_within v q limits c.requires.queue)
    (found_first a v q c.self.invariant view c.requires.queue c.args.level.number c.loop-found.left found.waiting c.in-Some.ensures.first)
    (found_slot a v q c.self.invariant view c.requires.queue found.slot found.waiting c.in-Some.ensures.slot)
    (subst (λ u. FitsSlot u s q found.slot lane) now c.in-Some-lane_for.ensures.fits)
    (subst (λ u. (m : ℕ) → FitsSlot u s q found.slot m → ¬ IsBetterLane u m lane) now c.in-Some-lane_for.ensures.best))

pub loop-found-preserved : goal.loop-found-preserved
loop-found-preserved c =
    let v : View = c.args.self.now in
    let s = c.args.skips.now in
    let q = c.args.queue in
    let slot = c.in-Some.found.slot in
    let a : Inside = c.self.inside in
    let view : view_in a ≡ v = c.self.view_is ∙ c.loop-found.invariant.0 in
    let now : view_in (with_queues a c.first.new.self) ≡ v = ap (λ qs. view_in (with_queues a qs)) c.in-Some.ensures.same ∙ view in
    let none : (m : ℕ) → ¬ FitsSlot v s q slot m = subst (λ u. (m : ℕ) → ¬ FitsSlot u s q slot m) now c.in_default-lane_for.ensures.none in
    (now, allowed_rest v s q slot c.loop-found.left c.remove.new.self none c.remove.ensures.others c.loop-found.invariant.1)

pub returns-clause-none : goal.returns-clause-none
returns-clause-none c =
    let v : View = c.args.self.now in
    let a : Inside = c.self.inside in
    let view : view_in a ≡ v = c.self.view_is ∙ c.loop-found.invariant.0 in
    let limits = limits_here c.self.inside v c.self.invariant view in
    none_in v c.args.skips.now c.args.queue c.args.level.number c.loop-found.left c.loop-found.invariant.1 (slots_within v c.args.queue limits c.requires.queue)
    (found_none a v c.args.queue c.self.invariant view c.requires.queue c.args.level.number c.loop-found.left c.in_default.ensures.none)

pub returns-in-Some-lane_for-clause-slot : goal.returns-in-Some-lane_for-clause-slot
returns-in-Some-lane_for-clause-slot c =
    let found = c.in-Some.found in
    offer_slot c.self.inside c.args.self.now c.args.queue c.self.invariant (c.self.view_is ∙ c.loop-found.invariant.0) c.requires.queue found.slot found.waiting c.of.result c.in-Some.ensures.slot c.of.ensures.slot (c.of.ensures.queue ∙ c.in-Some.ensures.names)
    c.of.ensures.event
