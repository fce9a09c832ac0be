-- One lane more is in the set.
use Rattle.std.proofs.Common.{rules, ◌≤◌, length, arith}
use Rattle.event_ports.proofs.Looks.{get_within, got_there, one_added}
use Rattle.event_ports.proofs.flows.all_lanes.Goals as goal

pub loop-lane-preserved : goal.loop-lane-preserved
loop-lane-preserved c = one_added c.args.links.now c.loop-lane.lane-index _ c.loop-lane.lanes c.add.new.self (got_there c.args.links.now c.loop-lane.lane-index (search rules)) c.add.ensures.there c.add.ensures.others c.loop-lane.invariant

pub returns : goal.returns
returns c i lane at =
    let whole : length c.args.links.now ≤ c.loop-lane.lane-index = search rules in
    c.loop-lane.invariant i lane (omega (arith, whole, get_within c.args.links.now i lane at)) at
