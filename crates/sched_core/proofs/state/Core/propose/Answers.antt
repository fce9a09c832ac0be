use Rattle.sched_core.specs.Runs.{HasSlot}
use Rattle.std.proofs.Common.{◌≡◌, ◌<◌, length, slice_index, refl, sym, ap, ◌∙◌, subst, arith}
use Rattle.std.proofs.lemmas.Bool.{false≢true, lt-ltb, ltb-true}
use Rattle.std.specs.Option.{IfSome}
use Rattle.transcripts.specs.Standing.{View}
use Rattle.transcripts.specs.Choice.{HasNoChoice, HasNone}
use Rattle.sched_core.proofs.Offers.{IsOfferFrom, busy_queues, idle_queues, none_here, offer_keeps, offers, others_there, queue_passed, served_offer, some_here}
use Rattle.sched_core.specs.Service.{IsServedFirst}
use Rattle.sched_core.proofs.Cores.{limits_here}
use Rattle.sched_core.proofs.state.Core.propose.Goals as goal

pub returns-then-is_some-clause-choice : goal.returns-then-is_some-clause-choice
returns-then-is_some-clause-choice c =
    let v : View = c.args.self.now in
    let s = c.args.skips.now in
    let n = c.in-Some.queue in
    let same : c.loop-queue.self ≡ v = c.loop-queue.invariant.0 in
    let first : IsServedFirst v.shape c.loop-queue.left n = subst (λ (u : View). IsServedFirst u.shape c.loop-queue.left n) same c.in-Some.ensures.first in
    let sweep : c.sweep-sweep.result ≡ v.shape.sweep = c.sweep-sweep.ensures.value ∙ ap (λ (u : View). u.shape.sweep) c.self.view_is in
    let quota : slice_index s.given n < c.sweep-sweep.result = ltb-true _ _ (sym c.has_quota.ensures.value ∙ c.if-has_quota.true) in
    served_offer v s n c.loop-queue.left c.offer_from-offer.result first c.loop-queue.invariant.2 (c.loop-queue.invariant.1 n first.there) (omega arith)
    (subst (λ u. IfSome c.offer_from-offer.result (IsOfferFrom u s n)) same c.offer_from-offer.ensures.offer)

pub returns-then-is_some-clause-none : goal.returns-then-is_some-clause-none
returns-then-is_some-clause-none c = some_here c.offer_from-offer.result (HasNoChoice c.args.self.now c.args.skips.now) (sym c.is_some.ensures ∙ c.if-is_some.true)

pub returns-then-is_some-clause-offer : goal.returns-then-is_some-clause-offer
returns-then-is_some-clause-offer c = offers c.args.self.now c.args.skips.now c.offer_from-offer.result (returns-then-is_some-clause-choice c)

pub returns-then-is_some-clause-keeps : goal.returns-then-is_some-clause-keeps
returns-then-is_some-clause-keeps c T stands = offer_keeps c.args.self.now c.offer_from-offer.result T stands (returns-then-is_some-clause-offer c)

pub loop-queue-init : goal.loop-queue-init
loop-queue-init c =
    let v : View = c.args.self.now in
    let busy = c.busy-left.result in
    (refl, busy_queues c.self.inside v busy c.self.view_is c.self.invariant.queues c.busy-left.ensures, idle_queues c.self.inside v c.args.skips.now busy c.self.view_is c.busy-left.ensures)

pub loop-queue-preserved : goal.loop-queue-preserved
loop-queue-preserved c =
    let v : View = c.args.self.now in
    let s = c.args.skips.now in
    let n = c.in-Some.queue in
    let same : c.loop-queue.self ≡ v = c.loop-queue.invariant.0 in
    let sweep : c.sweep-sweep.result ≡ v.shape.sweep = c.sweep-sweep.ensures.value ∙ ap (λ (u : View). u.shape.sweep) c.self.view_is in (
      same,
      others_there (λ q. q < length v.shape.queues) n c.loop-queue.left c.remove.new.self c.remove.ensures.gone c.remove.ensures.others c.loop-queue.invariant.1,
      queue_passed v s n c.loop-queue.left c.remove.new.self c.remove.ensures.others
          (λ quota. absurd (false≢true (sym c.if-has_quota.false ∙ c.has_quota.ensures.value ∙ lt-ltb _ _ (subst (λ k. slice_index s.given n < k) (sym sweep) quota))))
          c.loop-queue.invariant.2,
    )

pub loop-queue-preserved-else-is_some : goal.loop-queue-preserved-else-is_some
loop-queue-preserved-else-is_some c =
    let v : View = c.args.self.now in
    let s = c.args.skips.now in
    let n = c.in-Some.queue in
    let same : c.loop-queue.self ≡ v = c.loop-queue.invariant.0 in (
      c.offer_from-offer.ensures.same ∙ same,
      others_there (λ q. q < length v.shape.queues) n c.loop-queue.left c.remove.new.self c.remove.ensures.gone c.remove.ensures.others c.loop-queue.invariant.1,
      queue_passed v s n c.loop-queue.left c.remove.new.self c.remove.ensures.others
          (λ quota. subst (λ u. HasNone u s n) same (none_here c.offer_from-offer.result (HasNone c.loop-queue.self s n) (sym c.is_some.ensures ∙ c.if-is_some.false) c.offer_from-offer.ensures.none))
          c.loop-queue.invariant.2,
    )

pub first_served-requires : goal.first_served-requires
first_served-requires c q has = subst (λ (u : View). q < length u.shape.queues) (sym c.loop-queue.invariant.0) (c.loop-queue.invariant.1 q has)

pub has_quota-requires : goal.has_quota-requires
has_quota-requires c =
    let limits = limits_here c.self.inside c.args.self.now c.self.invariant c.self.view_is in
    omega (arith, c.loop-queue.invariant.1 c.in-Some.queue c.in-Some.ensures.first.there, limits.queue_count)

pub offer_from-offer-requires : goal.offer_from-offer-requires
offer_from-offer-requires c =
    subst (λ (u : View). c.in-Some.queue < length u.shape.queues) (sym c.loop-queue.invariant.0) (c.loop-queue.invariant.1 c.in-Some.queue c.in-Some.ensures.first.there)

pub returns-clause-none : goal.returns-clause-none
returns-clause-none c q there quota = c.loop-queue.invariant.2 q (c.in_default.ensures.none q) quota

pub returns-then-is_some-clause-slot : goal.returns-then-is_some-clause-slot
returns-then-is_some-clause-slot c = subst (λ v. IfSome c.offer_from-offer.result (HasSlot v)) c.loop-queue.invariant.0 c.offer_from-offer.ensures.slot
