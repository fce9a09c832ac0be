use Rattle.sched_core.specs.Runs.{HasSlot}
use Rattle.std.proofs.Common.{◌<◌, ◌∙◌, length, subst, sym}
use Rattle.std.specs.Option.{IfSome, IfNone}
use Rattle.transcripts.specs.Standing.{View}
use Rattle.transcripts.specs.Choice.{HasNone}
use Rattle.parked_queue.specs.LevelSets.{members}
use Rattle.sched_core.proofs.FirstOnes.{levels_here}
use Rattle.sched_core.proofs.Offers.{IsOfferAt, level_more, none_beside, none_of, offer_first, some_here}
use Rattle.sched_core.specs.Offered.{AreOpenLanes, HasNoneIn}
use Rattle.sched_core.proofs.state.Core.offer_by_level.Goals as goal

pub loop-level-init : goal.loop-level-init
loop-level-init c = ((λ i. c.args.self.now), levels_here c.self.inside c.args.self.now c.args.skips.now c.args.queue c.levels-left.result c.self.view_is c.levels-left.ensures)

pub loop-level-preserved : goal.loop-level-preserved
loop-level-preserved c =
    let v : View = c.args.self.now in
    let same = c.loop-level.invariant.0 in (
      c.offer_in-offer.ensures.same ∙ same,
      level_more v c.args.skips.now c.args.queue c.in-Some.level.number (members c.loop-level.left) (members c.pop.new.self) c.in-Some.ensures.others
          (none_of c.offer_in-offer.result (HasNoneIn v c.args.skips.now c.args.queue c.in-Some.level.number) (sym c.is_some.ensures ∙ c.if-is_some.false)
          (subst (λ u. IfNone c.offer_in-offer.result (HasNoneIn u c.args.skips.now c.args.queue c.in-Some.level.number)) same c.offer_in-offer.ensures.none))
          c.loop-level.invariant.1,
    )

pub returns-then-is_some-clause-offer : goal.returns-then-is_some-clause-offer
returns-then-is_some-clause-offer c =
    let v : View = c.args.self.now in
    offer_first v c.args.skips.now c.args.queue c.in-Some.level.number (members c.loop-level.left) c.offer_in-offer.result c.in-Some.ensures.first c.loop-level.invariant.1
    (subst (λ u. IfSome c.offer_in-offer.result (IsOfferAt u c.args.skips.now c.args.queue c.in-Some.level.number)) c.loop-level.invariant.0 c.offer_in-offer.ensures.offer)

pub returns-clause-none : goal.returns-clause-none
returns-clause-none c = none_beside c.args.self.now c.args.skips.now c.args.queue (members c.loop-level.left) c.in_default.ensures.none c.loop-level.invariant.1

pub returns-then-is_some-clause-none : goal.returns-then-is_some-clause-none
returns-then-is_some-clause-none c = some_here c.offer_in-offer.result (HasNone c.args.self.now c.args.skips.now c.args.queue) (sym c.is_some.ensures ∙ c.if-is_some.true)

pub offer_in-offer-requires-clause-queue : goal.offer_in-offer-requires-clause-queue
offer_in-offer-requires-clause-queue c = subst (λ (v : View). c.args.queue < length v.shape.queues) (sym c.loop-level.invariant.0) c.requires.queue

pub offer_in-offer-requires-clause-lanes : goal.offer_in-offer-requires-clause-lanes
offer_in-offer-requires-clause-lanes c = subst (λ v. AreOpenLanes v c.args.skips.now c.args.queue c.args.lanes) (sym c.loop-level.invariant.0) c.requires.lanes

pub returns-then-is_some-clause-slot : goal.returns-then-is_some-clause-slot
returns-then-is_some-clause-slot c = subst (λ v. IfSome c.offer_in-offer.result (HasSlot v)) c.loop-level.invariant.0 c.offer_in-offer.ensures.slot
