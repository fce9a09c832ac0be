use Rattle.std.proofs.Common.{◌≡◌, ◌<◌, length, refl, ◌∙◌, arith}
use Rattle.std.proofs.lemmas.List.{length-set}
use Rattle.event_scheduler.proofs.Dealing.{flushed_more, there_less}
use Rattle.event_scheduler.proofs.Lanes.{same_sight}
use Rattle.event_scheduler.proofs.deal.flush_all.Goals as goal

pub loop-lane-init : goal.loop-lane-init
loop-lane-init c = (λ pool core v p n. refl, refl, c.requires.others, c.requires.there)

pub index_mut-requires : goal.index_mut-requires
index_mut-requires c = omega (arith, c.loop-lane.lanes.ok, c.loop-lane.invariant.3 c.in-Some.lane c.in-Some.ensures.first.there)

pub loop-lane-smaller : goal.loop-lane-smaller
loop-lane-smaller c = c.in-Some.ensures.lighter

pub loop-lane-preserved : goal.loop-lane-preserved
loop-lane-preserved c =
    let was = c.loop-lane.invariant in
    let k = c.in-Some.lane in
    let lanes = c.loop-lane.lanes.items in
    let within : k < length lanes = was.3 k c.in-Some.ensures.first.there in
    let there = c.index_mut.ensures.value in
    let put = c.flush.ensures in
    let same : length (lanes) ≡ length lanes = refl in (
      λ pool core v p n. was.0 pool core v p n ∙ same_sight pool core lanes v p n k c.index_mut.result.now c.flush.new.self there put.lane put.lists.0 put.lists.1 put.lists.2,
      length-set _ _ _ ∙ was.1,
      flushed_more lanes k c.index_mut.result.now c.flush.new.self c.loop-lane.left c.pop.new.self within there put.shown c.in-Some.ensures.others was.2,
      λ l has. omega (arith, there_less (length lanes) k c.loop-lane.left c.pop.new.self c.in-Some.ensures.gone c.in-Some.ensures.others was.3 l has, length-set lanes k c.flush.new.self),
    )

pub returns-clause-same : goal.returns-clause-same
returns-clause-same c pool core v p n = c.loop-lane.invariant.0 pool core v p n

pub returns-clause-lanes : goal.returns-clause-lanes
returns-clause-lanes c = c.loop-lane.invariant.1

pub returns-clause-shown : goal.returns-clause-shown
returns-clause-shown c l = c.loop-lane.invariant.2 l (c.in_default.ensures.none l)
