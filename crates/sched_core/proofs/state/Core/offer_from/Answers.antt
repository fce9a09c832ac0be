use Rattle.sched_core.specs.Runs.{HasSlot}
use Rattle.std.proofs.Common.{◌≡◌, ◌<◌, length, Some, sym, ◌∙◌, subst}
use Rattle.std.specs.Option.{IfSome}
use Rattle.transcripts.specs.Choice.{HasNone}
use Rattle.transcripts.specs.Standing.{View}
use Rattle.parked_queue.specs.LevelSets.{members}
use Rattle.sched_core.specs.Offered.{AreOpenLanes, HasAllowed, HasNoneIn, IsOfferOf, numbered_in}
use Rattle.sched_core.proofs.FirstOnes.{found_none, levels_here, slots_within}
use Rattle.sched_core.proofs.Offers.{IsOfferAt, level_more, none_beside, none_either, none_in, offer_first, some_here}
use Rattle.sched_core.proofs.OpenLanes.{none_open}
use Rattle.sched_core.proofs.Cores.{limits_here}
use Rattle.sched_core.proofs.state.Core.offer_from.Goals as goal
use Rattle.sched_core.proofs.state.Core.offer_from.Goals.{After-is_blocked}

-- where one level alone is left, there is none of the queue if there is none of the level
only_level : (c : After-is_blocked) → HasNoneIn c.args.self.now c.args.skips.now c.args.queue c.in_ok-level.level.number → HasNone c.args.self.now c.args.skips.now c.args.queue
only_level c none =
    let v : View = c.args.self.now in
    let s = c.args.skips.now in
    let q = c.args.queue in
    none_beside v s q (members c.pop.new.self) (c.is_empty-2.ensures.0 c.if-is_empty-2.true)
    (level_more v s q c.in_ok-level.level.number (members c.levels-others.result) (members c.pop.new.self) c.in_ok-level.ensures.others none
    (levels_here c.self.inside v s q c.levels-others.result c.self.view_is c.levels-others.ensures))

pub returns-then-not-has_flow_lanes-clause-none : goal.returns-then-not-has_flow_lanes-clause-none
returns-then-not-has_flow_lanes-clause-none c =
    none_open c.args.self.now c.args.skips.now c.args.queue c.open_lanes-lanes.result (sym c.has_flow_lanes.ensures ∙ c.if-not-has_flow_lanes.true) c.open_lanes-lanes.ensures (c.is_empty.ensures.0 c.if-is_empty.true)

pub returns-in_err-level-clause-none : goal.returns-in_err-level-clause-none
returns-in_err-level-clause-none c =
    none_either c.from_residual.result (HasNone c.args.self.now c.args.skips.now c.args.queue)
    (none_beside c.args.self.now c.args.skips.now c.args.queue (members c.levels-others.result) c.in_err-level.ensures.none
    (levels_here c.self.inside c.args.self.now c.args.skips.now c.args.queue c.levels-others.result c.self.view_is c.levels-others.ensures))

pub returns-then-is_some-clause-offer : goal.returns-then-is_some-clause-offer
returns-then-is_some-clause-offer c =
    offer_first c.args.self.now c.args.skips.now c.args.queue c.in_ok-level.level.number (members c.levels-others.result) c.offer_at_head-offer.result c.in_ok-level.ensures.first
    (levels_here c.self.inside c.args.self.now c.args.skips.now c.args.queue c.levels-others.result c.self.view_is c.levels-others.ensures)
    (subst (λ v. IfSome c.offer_at_head-offer.result (IsOfferAt v c.args.skips.now c.args.queue c.in_ok-level.level.number)) c.allowed_at-allowed.ensures.same c.offer_at_head-offer.ensures.offer)

pub returns-then-is_blocked-clause-none : goal.returns-then-is_blocked-clause-none
returns-then-is_blocked-clause-none c =
    let v : View = c.args.self.now in
    let q = c.args.queue in
    let level = c.in_ok-level.level.number in
    let allowed = c.allowed_at-allowed.result in
    let limits = limits_here c.self.inside v c.self.invariant c.self.view_is in
    only_level (goal.at.returns-then-is_blocked-clause-none c).After-is_blocked
    (none_in v c.args.skips.now q level allowed c.allowed_at-allowed.ensures.allowed (slots_within v q limits c.requires)
    (found_none c.self-2.inside v q c.self-2.invariant (c.self-2.view_is ∙ c.allowed_at-allowed.ensures.same) c.requires level allowed (c.is_blocked.ensures c.if-is_blocked.true)))

pub returns-in_err-offer-clause-none : goal.returns-in_err-offer-clause-none
returns-in_err-offer-clause-none c =
    none_either c.from_residual-in_err-offer.result (HasNone c.args.self.now c.args.skips.now c.args.queue)
    (only_level (goal.at.returns-in_err-offer-clause-none c).After-is_blocked
    (subst (λ u. HasNoneIn u c.args.skips.now c.args.queue c.in_ok-level.level.number) c.allowed_at-allowed.ensures.same c.in_err-offer.ensures.none))

pub returns-in_err-offer-2-clause-none : goal.returns-in_err-offer-2-clause-none
returns-in_err-offer-2-clause-none c =
    none_either c.from_residual-in_err-offer-2.result (HasNone c.args.self.now c.args.skips.now c.args.queue)
    (subst (λ v. HasNone v c.args.skips.now c.args.queue) c.allowed_at-allowed.ensures.same c.in_err-offer-2.ensures.none)

pub returns-then-is_empty-2-clause-offer : goal.returns-then-is_empty-2-clause-offer
returns-then-is_empty-2-clause-offer c =
    offer_first c.args.self.now c.args.skips.now c.args.queue c.in_ok-level.level.number (members c.levels-others.result) (Some c.in_ok-offer.offer) c.in_ok-level.ensures.first
    (levels_here c.self.inside c.args.self.now c.args.skips.now c.args.queue c.levels-others.result c.self.view_is c.levels-others.ensures)
    (subst (λ v. IsOfferAt v c.args.skips.now c.args.queue c.in_ok-level.level.number c.in_ok-offer.offer) c.allowed_at-allowed.ensures.same c.in_ok-offer.ensures.offer)

pub offer_at_level-requires-clause-lanes : goal.offer_at_level-requires-clause-lanes
offer_at_level-requires-clause-lanes c =
    subst (λ v. AreOpenLanes v c.args.skips.now c.args.queue c.open_lanes-lanes.result) (sym c.allowed_at-allowed.ensures.same) c.open_lanes-lanes.ensures

pub offer_at_level-requires-clause-allowed : goal.offer_at_level-requires-clause-allowed
offer_at_level-requires-clause-allowed c =
    subst (λ v. HasAllowed v c.args.skips.now c.args.queue c.allowed_at-allowed.result) (sym c.allowed_at-allowed.ensures.same) c.allowed_at-allowed.ensures.allowed

pub returns-in_err-offer-clause-offer : goal.returns-in_err-offer-clause-offer
returns-in_err-offer-clause-offer c = rw (c.from_residual-in_err-offer.ensures) tt

pub returns-clause-offer : goal.returns-clause-offer
returns-clause-offer c =
    subst (λ v. (c.in_ok-offer-2.offer.delivery.queue ≡ c.args.queue)
    × IsOfferOf v c.args.skips.now c.args.queue c.in_ok-offer-2.offer.lane (numbered_in c.in_ok-offer-2.offer.delivery))
    c.allowed_at-allowed.ensures.same c.in_ok-offer-2.ensures.offer

pub offer_at_head-offer-requires-clause-queue : goal.offer_at_head-offer-requires-clause-queue
offer_at_head-offer-requires-clause-queue c = subst (λ (v : View). c.args.queue < length v.shape.queues) (sym c.allowed_at-allowed.ensures.same) c.requires

pub offer_at_head-offer-requires-clause-lanes : goal.offer_at_head-offer-requires-clause-lanes
offer_at_head-offer-requires-clause-lanes c =
    subst (λ v. AreOpenLanes v c.args.skips.now c.args.queue c.open_lanes-lanes.result) (sym c.allowed_at-allowed.ensures.same) c.open_lanes-lanes.ensures

pub offer_at_head-offer-requires-clause-allowed : goal.offer_at_head-offer-requires-clause-allowed
offer_at_head-offer-requires-clause-allowed c =
    subst (λ v. HasAllowed v c.args.skips.now c.args.queue c.allowed_at-allowed.result) (sym c.allowed_at-allowed.ensures.same) c.allowed_at-allowed.ensures.allowed

pub returns-then-is_some-clause-none : goal.returns-then-is_some-clause-none
returns-then-is_some-clause-none c =
    some_here c.offer_at_head-offer.result (HasNone c.args.self.now c.args.skips.now c.args.queue) (sym c.is_some.ensures ∙ c.if-is_some.true)

pub offer_by_level-requires-clause-queue : goal.offer_by_level-requires-clause-queue
offer_by_level-requires-clause-queue c = subst (λ (v : View). c.args.queue < length v.shape.queues) (sym c.allowed_at-allowed.ensures.same) c.requires

pub offer_by_level-requires-clause-lanes : goal.offer_by_level-requires-clause-lanes
offer_by_level-requires-clause-lanes c =
    subst (λ v. AreOpenLanes v c.args.skips.now c.args.queue c.open_lanes-lanes.result) (sym c.allowed_at-allowed.ensures.same) c.open_lanes-lanes.ensures

pub returns-then-is_some-clause-slot : goal.returns-then-is_some-clause-slot
returns-then-is_some-clause-slot c = subst (λ v. IfSome c.offer_at_head-offer.result (HasSlot v)) c.allowed_at-allowed.ensures.same c.offer_at_head-offer.ensures.slot

pub returns-then-is_empty-2-clause-slot : goal.returns-then-is_empty-2-clause-slot
returns-then-is_empty-2-clause-slot c = subst (λ v. HasSlot v c.in_ok-offer.offer) c.allowed_at-allowed.ensures.same c.in_ok-offer.ensures.slot

pub returns-in_err-offer-clause-slot : goal.returns-in_err-offer-clause-slot
returns-in_err-offer-clause-slot c = rw (c.from_residual-in_err-offer.ensures) tt

pub returns-clause-slot : goal.returns-clause-slot
returns-clause-slot c = subst (λ v. HasSlot v c.in_ok-offer-2.offer) c.allowed_at-allowed.ensures.same c.in_ok-offer-2.ensures.slot
