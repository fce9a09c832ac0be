use Rattle.std.proofs.Common.{◌-◌, ◌<◌, length, set, inl, refl, ap, sym, arith, ◌∙◌}
use Rattle.std.proofs.lemmas.List.{length-set}
use Rattle.evt_types.specs.Plan.{Plan, lanes_of}
use Rattle.event_scheduler.proofs.Lanes.{fetched_now, fewer_left, seen_elsewhere, seen_here, still_hidden}
use Rattle.event_scheduler.proofs.Taking.{ends_none, lane_ends, lane_more, takes_looked, takes_none}
use Rattle.event_scheduler.specs.Seeking.{fetched_in}
use Rattle.event_scheduler.proofs.scheduler.Scheduler.take_lane.Goals as goal

pub loop-taken-init : goal.loop-taken-init
loop-taken-init g c = (takes_none _ _ _, omega arith, λ j other. refl, omega arith)

pub returns-then-ends-clause-takes : goal.returns-then-ends-clause-takes
returns-then-ends-clause-takes g c =
    lane_ends _ _ _ _ _ _ _ _ _ (omega (arith, c.loop-taken-test.true, c.take_fetched-more.ensures.most, c.sweep-most.ensures.value, ap (λ (p : Plan). p.sweep) c.shape.ensures))
    (lane_more _ _ _ _ _ _ _ _ _ c.loop-taken.invariant.0 c.take_fetched-more.ensures.takes) (takes_none _ _ _)

pub returns-then-ends-clause-ends : goal.returns-then-ends-clause-ends
returns-then-ends-clause-ends g c = c.take_fetched-more.ensures.ends _ _ c.if-ends.true

pub returns-then-ends-clause-others : goal.returns-then-ends-clause-others
returns-then-ends-clause-others g c l other = c.take_fetched-more.ensures.others l other ∙ c.loop-taken.invariant.2 l other

pub invariant_of-self-clause-lanes_are : goal.invariant_of-self-clause-lanes_are
invariant_of-self-clause-lanes_are g c = length-set _ _ _ ∙ c.take_fetched-more.new.self.lanes_are

pub invariant_of-self-clause-shown : goal.invariant_of-self-clause-shown
invariant_of-self-clause-shown g c = still_hidden _ c.args.lane c.index_mut-near.result.now c.fetch.new.self c.index_mut-near.ensures.value c.fetch.ensures.lists.1 c.take_fetched-more.new.self.shown

pub returns-then-not-fetch-clause-takes : goal.returns-then-not-fetch-clause-takes
returns-then-not-fetch-clause-takes g c =
    lane_ends _ _ _ _ _ _ _ _ _ (omega (arith, c.loop-taken-test.true, c.take_fetched-more.ensures.most, c.sweep-most.ensures.value, ap (λ (p : Plan). p.sweep) c.shape.ensures))
    (lane_more _ _ _ _ _ _ _ _ _ c.loop-taken.invariant.0 c.take_fetched-more.ensures.takes)
    (takes_looked _ _ _ _ _ _ c.args.lane c.index_mut-near.result.now c.fetch.new.self _ _ c.index_mut-near.ensures.value c.fetch.ensures.lane c.fetch.ensures.lists.0 c.fetch.ensures.lists.2)

pub returns-then-not-fetch-clause-ends : goal.returns-then-not-fetch-clause-ends
returns-then-not-fetch-clause-ends g c =
    let within : c.args.lane < length c.take_fetched-more.new.self.lanes.items =
    omega (arith, c.requires.lane, c.take_fetched-more.new.self.lanes_are, ap lanes_of c.loop-taken.invariant.0.runs.shape, ap lanes_of c.take_fetched-more.ensures.takes.runs.shape) in
    ends_none _ _ _ _ _ (omega (arith, c.loop-taken-test.true, c.take_fetched-more.ensures.most, c.sweep-most.ensures.value, ap (λ (p : Plan). p.sweep) c.shape.ensures))
    (λ fewer. seen_here _ c.args.lane c.fetch.new.self within ∙ c.fetch.ensures.none (omega (arith, fewer, c.sweep-most.ensures.value, ap (λ (p : Plan). p.sweep) c.shape.ensures)) (c.fetch.ensures.nothing c.if-not-fetch.true))

pub returns-then-not-fetch-clause-others : goal.returns-then-not-fetch-clause-others
returns-then-not-fetch-clause-others g c l other =
    seen_elsewhere _ c.args.lane c.fetch.new.self l other ∙ (c.take_fetched-more.ensures.others l other ∙ c.loop-taken.invariant.2 l other)

pub loop-taken-smaller : goal.loop-taken-smaller
loop-taken-smaller g c =
    let within : c.args.lane < length c.take_fetched-more.new.self.lanes.items =
    omega (arith, c.requires.lane, c.take_fetched-more.new.self.lanes_are, ap lanes_of c.loop-taken.invariant.0.runs.shape, ap lanes_of c.take_fetched-more.ensures.takes.runs.shape) in
    let left =
    fewer_left (fetched_in c.loop-taken.self.lanes.items c.args.lane) (fetched_in (set c.take_fetched-more.new.self.lanes.items c.args.lane c.fetch.new.self) c.args.lane) (c.sweep-most.result - c.loop-taken.taken) c.take_fetched-more.result.0
    (λ none. c.fetch.ensures.some c.if-not-fetch.false (sym (fetched_now _ c.args.lane c.fetch.new.self within) ∙ none)) (omega (arith, c.loop-taken-test.true)) c.take_fetched-more.ensures.most
    (λ there. c.take_fetched-more.ensures.some (omega (arith, c.loop-taken-test.true)) there c.if-ends.false) in
    omega (arith, left, c.take_fetched-more.ensures.most, c.loop-taken-test.true)

pub loop-taken-preserved : goal.loop-taken-preserved
loop-taken-preserved g c = (
  lane_ends _ _ _ _ _ _ _ _ _ (omega arith) (lane_more _ _ _ _ _ _ _ _ _ c.loop-taken.invariant.0 c.take_fetched-more.ensures.takes)
      (takes_looked _ _ _ _ _ _ c.args.lane c.index_mut-near.result.now c.fetch.new.self _ _ c.index_mut-near.ensures.value c.fetch.ensures.lane c.fetch.ensures.lists.0 c.fetch.ensures.lists.2),
  omega (arith, c.loop-taken.invariant.1, c.take_fetched-more.ensures.room),
  λ j other. seen_elsewhere _ c.args.lane c.fetch.new.self j other ∙ (c.take_fetched-more.ensures.others j other ∙ c.loop-taken.invariant.2 j other),
  omega (arith, c.loop-taken-test.true, c.take_fetched-more.ensures.most),
)

pub returns-clause-takes : goal.returns-clause-takes
returns-clause-takes g c =
    lane_ends _ _ _ _ _ _ _ _ _ (omega (arith, c.loop-taken.invariant.3, c.sweep-most.ensures.value, ap (λ (p : Plan). p.sweep) c.shape.ensures)) c.loop-taken.invariant.0 (takes_none _ _ _)

pub returns-clause-ends : goal.returns-clause-ends
returns-clause-ends g c = inl (omega (arith, c.loop-taken.invariant.3, c.loop-taken-test.false, c.sweep-most.ensures.value, ap (λ (p : Plan). p.sweep) c.shape.ensures))
