-- The lanes before the one that is found have nothing.
use Rattle.std.proofs.Common.{rules, ◌≡◌, ◌<◌, length, get_or, ap, sym, arith, ◌∙◌}
use Rattle.std.proofs.lemmas.List.{length-set}
use Rattle.lane_rings.specs.declared.near.Near.{Near}
use Rattle.event_scheduler.proofs.Lanes.{fetched_now, none_before, none_to, same_lanes, still_seen}
use Rattle.event_scheduler.proofs.seek.first_fetched.Goals as goal

pub returns-then-fetch-clause-same : goal.returns-then-fetch-clause-same
returns-then-fetch-clause-same c =
    let there : c.index-lanes-lane.result ≡ get_or c.loop-lane.lanes c.loop-lane.lane c.index-lanes-lane.result = search rules in
    let near : Near = get_or c.loop-lane.lanes c.loop-lane.lane c.index-lanes-lane.result in
    let is : near ≡ get_or c.loop-lane.lanes c.loop-lane.lane near = ap (get_or c.loop-lane.lanes c.loop-lane.lane) there in
    same_lanes _ c.loop-lane.lanes c.loop-lane.lane near c.fetch.new.self c.loop-lane.invariant.0 is c.fetch.ensures.lane c.fetch.ensures.lists.0 c.fetch.ensures.lists.1 c.fetch.ensures.lists.2

pub returns-then-fetch-clause-none : goal.returns-then-fetch-clause-none
returns-then-fetch-clause-none c = none_before c.loop-lane.lanes c.args.from c.loop-lane.lane c.fetch.new.self c.loop-lane.invariant.2

pub returns-then-fetch-clause-found : goal.returns-then-fetch-clause-found
returns-then-fetch-clause-found c there none =
    c.fetch.ensures.some c.if-fetch.true (sym (fetched_now c.loop-lane.lanes c.loop-lane.lane c.fetch.new.self (omega (arith, there, c.loop-lane.invariant.1))) ∙ none)

pub returns-then-fetch-clause-others : goal.returns-then-fetch-clause-others
returns-then-fetch-clause-others c = still_seen _ c.loop-lane.lanes c.args.from c.loop-lane.lane c.fetch.new.self (search rules) c.loop-lane.invariant.3

pub loop-lane-preserved : goal.loop-lane-preserved
loop-lane-preserved c =
    let there : c.index-lanes-lane.result ≡ get_or c.loop-lane.lanes c.loop-lane.lane c.index-lanes-lane.result = search rules in
    let near : Near = get_or c.loop-lane.lanes c.loop-lane.lane c.index-lanes-lane.result in
    let is : near ≡ get_or c.loop-lane.lanes c.loop-lane.lane near = ap (get_or c.loop-lane.lanes c.loop-lane.lane) there in
    let within : c.loop-lane.lane < length c.loop-lane.lanes = omega (arith, c.loop-lane-test.true, c.loop-lane.invariant.1) in (
      same_lanes _ c.loop-lane.lanes c.loop-lane.lane near c.fetch.new.self c.loop-lane.invariant.0 is c.fetch.ensures.lane c.fetch.ensures.lists.0 c.fetch.ensures.lists.1 c.fetch.ensures.lists.2,
      length-set _ _ _ ∙ c.loop-lane.invariant.1,
      none_to c.loop-lane.lanes c.args.from c.loop-lane.lane c.fetch.new.self within c.loop-lane.invariant.2 (c.fetch.ensures.none c.requires.most (c.fetch.ensures.nothing c.if-fetch.false)),
      still_seen _ c.loop-lane.lanes c.args.from c.loop-lane.lane c.fetch.new.self (search rules) c.loop-lane.invariant.3,
    )
