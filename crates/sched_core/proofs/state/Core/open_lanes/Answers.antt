use Rattle.std.proofs.Common.{◌≡◌, ◌<◌, length, subst, sym, ap, ◌∙◌, arith}
use Rattle.std.proofs.lemmas.Bool.{false≢true}
use Rattle.transcripts.specs.Standing.{View}
use Rattle.sched_core.proofs.OpenLanes.{shut_open, words_open}
use Rattle.sched_core.specs.Links.{AreLinksOf}
use Rattle.sched_core.specs.Offered.{AreOpenLanes, HasPlace}
use Rattle.sched_core.proofs.state.Core.open_lanes.Goals as goal

pub returns-then-not-has_place : goal.returns-then-not-has_place
returns-then-not-has_place c =
    shut_open c.args.self.now c.args.skips.now c.args.queue c.none.result c.none.ensures (λ place. false≢true (sym c.if-not-has_place.true ∙ c.has_place.ensures.1 place))

pub returns : goal.returns
returns c =
    let a = c.self.inside in
    let count : length a.shape.queues ≡ length c.args.self.now.shape.queues = ap (λ (u : View). length u.shape.queues) c.self.view_is in
    let h : c.args.queue < length a.links.items = omega (arith, c.requires, c.self.invariant.links.count, count) in
    subst (λ v. AreOpenLanes v c.args.skips.now c.args.queue c.except.result) c.self.view_is
    (words_open a c.args.skips.now c.args.queue c.index-links.result.now c.roomy.result c.both.result c.closed.result c.except.result c.self.invariant
    (subst (λ v. HasPlace v c.args.queue) (sym c.self.view_is) (c.has_place.ensures.0 c.if-not-has_place.false))
    (subst (AreLinksOf a.shape c.args.queue) (sym c.index-links.ensures) (c.self.invariant.links.each c.args.queue c.index-links.result.now h)) c.roomy.ensures c.closed.ensures c.both.ensures c.except.ensures)
