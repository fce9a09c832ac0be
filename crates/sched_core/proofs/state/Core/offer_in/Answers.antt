use Rattle.sched_core.specs.Runs.{HasSlot}
use Rattle.std.proofs.Common.{◌≡◌, ◌<◌, ◌∙◌, length, subst, sym}
use Rattle.std.specs.Option.{IfNone, IfSome}
use Rattle.transcripts.specs.Standing.{View}
use Rattle.sched_core.proofs.FirstOnes.{found_none, slots_within}
use Rattle.sched_core.proofs.Offers.{none_in, some_here}
use Rattle.sched_core.specs.Offered.{AreOpenLanes, HasAllowed, HasNoneIn, IsOfferIn, numbered_in, slot_at}
use Rattle.sched_core.proofs.Cores.{limits_here}
use Rattle.sched_core.proofs.state.Core.offer_in.Goals as goal

pub returns-then-is_empty-clause-none : goal.returns-then-is_empty-clause-none
returns-then-is_empty-clause-none c =
    none_in c.args.self.now c.args.skips.now c.args.queue c.args.level.number c.allowed-allowed.result c.allowed-allowed.ensures.allowed (slots_within c.args.self.now c.args.queue c.facts.ensures.limits c.requires.queue)
    (λ w waits level has. absurd (c.is_empty.ensures.0 c.if-is_empty.true (slot_at c.args.self.now c.args.queue w) has))

pub returns-then-is_blocked-clause-none : goal.returns-then-is_blocked-clause-none
returns-then-is_blocked-clause-none c =
    let v : View = c.allowed-allowed.new.self in
    let same = c.allowed-allowed.ensures.same in
    let there : c.args.queue < length v.shape.queues = subst (λ (u : View). c.args.queue < length u.shape.queues) (sym same) c.requires.queue in
    let limits = limits_here c.self.inside v c.self.invariant c.self.view_is in
    subst (λ u. HasNoneIn u c.args.skips.now c.args.queue c.args.level.number) same
    (none_in v c.args.skips.now c.args.queue c.args.level.number c.allowed-allowed.result (subst (λ u. HasAllowed u c.args.skips.now c.args.queue c.allowed-allowed.result) (sym same) c.allowed-allowed.ensures.allowed) (slots_within v c.args.queue limits there)
    (found_none c.self.inside v c.args.queue c.self.invariant c.self.view_is there c.args.level.number c.allowed-allowed.result (c.is_blocked.ensures c.if-is_blocked.true)))

pub returns-then-is_some-clause-none : goal.returns-then-is_some-clause-none
returns-then-is_some-clause-none c = some_here c.offer_at_head-offer.result (HasNoneIn c.args.self.now c.args.skips.now c.args.queue c.args.level.number) (sym c.is_some.ensures ∙ c.if-is_some.true)

pub offer_at_head-offer-requires-clause-queue : goal.offer_at_head-offer-requires-clause-queue
offer_at_head-offer-requires-clause-queue c = subst (λ (v : View). c.args.queue < length v.shape.queues) (sym c.allowed-allowed.ensures.same) c.requires.queue

pub offer_at_head-offer-requires-clause-lanes : goal.offer_at_head-offer-requires-clause-lanes
offer_at_head-offer-requires-clause-lanes c = subst (λ v. AreOpenLanes v c.args.skips.now c.args.queue c.args.lanes) (sym c.allowed-allowed.ensures.same) c.requires.lanes

pub offer_at_head-offer-requires-clause-allowed : goal.offer_at_head-offer-requires-clause-allowed
offer_at_head-offer-requires-clause-allowed c = subst (λ v. HasAllowed v c.args.skips.now c.args.queue c.allowed-allowed.result) (sym c.allowed-allowed.ensures.same) c.allowed-allowed.ensures.allowed

pub offer_behind-requires-clause-queue : goal.offer_behind-requires-clause-queue
offer_behind-requires-clause-queue c = subst (λ (v : View). c.args.queue < length v.shape.queues) (sym c.allowed-allowed.ensures.same) c.requires.queue

pub offer_behind-requires-clause-lanes : goal.offer_behind-requires-clause-lanes
offer_behind-requires-clause-lanes c = subst (λ v. AreOpenLanes v c.args.skips.now c.args.queue c.args.lanes) (sym c.allowed-allowed.ensures.same) c.requires.lanes

pub offer_behind-requires-clause-allowed : goal.offer_behind-requires-clause-allowed
offer_behind-requires-clause-allowed c = subst (λ v. HasAllowed v c.args.skips.now c.args.queue c.allowed-allowed.result) (sym c.allowed-allowed.ensures.same) c.allowed-allowed.ensures.allowed

pub returns-then-is_some-clause-offer : goal.returns-then-is_some-clause-offer
returns-then-is_some-clause-offer c =
    subst (λ v. IfSome c.offer_at_head-offer.result (λ o. (o.delivery.queue ≡ c.args.queue)
    × IsOfferIn v c.args.skips.now c.args.queue c.args.level.number o.lane (numbered_in o.delivery)))
    c.allowed-allowed.ensures.same c.offer_at_head-offer.ensures.offer

pub returns-clause-offer : goal.returns-clause-offer
returns-clause-offer c =
    subst (λ v. IfSome c.offer_behind.result (λ o. (o.delivery.queue ≡ c.args.queue)
    × IsOfferIn v c.args.skips.now c.args.queue c.args.level.number o.lane (numbered_in o.delivery)))
    c.allowed-allowed.ensures.same c.offer_behind.ensures.offer

pub returns-clause-none : goal.returns-clause-none
returns-clause-none c =
    subst (λ v. IfNone c.offer_behind.result (HasNoneIn v c.args.skips.now c.args.queue c.args.level.number)) c.allowed-allowed.ensures.same
    c.offer_behind.ensures.none

pub returns-then-is_some-clause-slot : goal.returns-then-is_some-clause-slot
returns-then-is_some-clause-slot c = subst (λ v. IfSome c.offer_at_head-offer.result (HasSlot v)) c.allowed-allowed.ensures.same c.offer_at_head-offer.ensures.slot

pub returns-clause-slot : goal.returns-clause-slot
returns-clause-slot c = subst (λ v. IfSome c.offer_behind.result (HasSlot v)) c.allowed-allowed.ensures.same c.offer_behind.ensures.slot
