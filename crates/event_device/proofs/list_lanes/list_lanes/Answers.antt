use Rattle.std.proofs.Common.{◌≡◌, ◌≤◌, ap, subst, sym, ◌∙◌, arith, length, flat_map}
use Rattle.std.specs.List.{range_with_len}
use Rattle.std.proofs.lemmas.Iterator.{YieldsList-from_zip}
use Rattle.std.proofs.lemmas.Iterator.Adapters.{YieldsList-from_vec}
use Rattle.std.proofs.lemmas.Iterator.Consumers.{YieldsList-end, YieldsList-from_enumerate, YieldsList-turn}
use Rattle.std.proofs.lemmas.List.{length_push}
use Rattle.std.proofs.lemmas.Option.{get_or_from_slice_get}
use Rattle.lane_rings.specs.Identity.{near_id}
use Rattle.evt_types.specs.Plan.{lanes_of}
use Rattle.event_device.proofs.LaneEnds.{pair_count, turn_is}
use Rattle.event_device.proofs.Leftovers.{AreListed, all_rest, listed_more, undelivered_in, undelivered_length, untaken_in, untaken_length}
use Rattle.event_device.specs.Between.{rest_at}
use Rattle.event_device.proofs.list_lanes.list_lanes.Goals as goal

pub list_lane-requires : goal.list_lane-requires
list_lane-requires c =
    let nears = c.args.nears.items in
    let fars = c.args.fars.items in
    let turn =
    turn_is nears fars (length c.loop-lane.yielded) c.in-Some.lane c.in-Some.near c.in-Some.far c.requires.lanes
    (YieldsList-turn
    (YieldsList-from_enumerate {s = c.into_iter-lane-iterator.result}
    (YieldsList-from_zip (YieldsList-from_vec nears (cc) (cc)) (YieldsList-from_vec fars (cc) (cc (c.args.fars.ok.0)))) (cc))
    c.loop-lane.yielded c.loop-lane.lane-iterator c.loop-lane.yielded_by c.next.result c.next.new.self (c.in-Some.lane, (c.in-Some.near, c.in-Some.far)) c.in-Some.is c.next.ensures.steps) in
    record {
      lane = turn.same;
      small =
          subst (λ x. ((near_id x).depth ≤ 64) × ((near_id x).room ≤ 64)) (get_or_from_slice_get nears (length c.loop-lane.yielded) c.in-Some.near c.in-Some.near turn.near)
          (c.requires.small (length c.loop-lane.yielded) c.in-Some.near turn.within);
      undelivered_room = omega (arith, turn.within, c.loop-lane.invariant.few.0, c.loop-lane.invariant.room.0, c.requires.undelivered_room.1);
      untaken_room = omega (arith, turn.within, c.loop-lane.invariant.few.1, c.loop-lane.invariant.room.1, c.requires.untaken_room.1);
    }

pub loop-lane-preserved : goal.loop-lane-preserved
loop-lane-preserved c =
    let nears = c.args.nears.items in
    let fars = c.args.fars.items in
    let n = length c.loop-lane.yielded in
    let turn =
    turn_is nears fars n c.in-Some.lane c.in-Some.near c.in-Some.far c.requires.lanes
    (YieldsList-turn
    (YieldsList-from_enumerate {s = c.into_iter-lane-iterator.result}
    (YieldsList-from_zip (YieldsList-from_vec nears (cc) (cc)) (YieldsList-from_vec fars (cc) (cc (c.args.fars.ok.0)))) (cc))
    c.loop-lane.yielded c.loop-lane.lane-iterator c.loop-lane.yielded_by c.next.result c.next.new.self (c.in-Some.lane, (c.in-Some.near, c.in-Some.far)) c.in-Some.is c.next.ensures.steps) in
    let more = length_push c.loop-lane.yielded (c.in-Some.lane, (c.in-Some.near, c.in-Some.far)) in
    let listed =
    listed_more nears fars n c.in-Some.lane c.loop-lane.undelivered.items c.list_lane.new.undelivered.items c.loop-lane.untaken.items c.list_lane.new.untaken.items c.in-Some.near c.in-Some.far turn
    c.loop-lane.invariant.listed c.list_lane.ensures.undelivered c.list_lane.ensures.untaken c.list_lane.ensures.rest in
    record {
      listed = subst (λ k. AreListed nears fars k c.list_lane.new.undelivered.items c.list_lane.new.untaken.items) (sym more) listed;
      few = (omega arith, omega arith);
      room = (omega arith, omega arith);
    }

pub returns : goal.returns
returns c =
    let nears = c.args.nears.items in
    let fars = c.args.fars.items in
    let rest = rest_at nears fars in
    let end =
    YieldsList-end
    (YieldsList-from_enumerate {s = c.into_iter-lane-iterator.result}
    (YieldsList-from_zip (YieldsList-from_vec nears (cc) (cc)) (YieldsList-from_vec fars (cc) (cc (c.args.fars.ok.0)))) (cc))
    c.loop-lane.yielded c.loop-lane.lane-iterator c.loop-lane.yielded_by c.next.result c.next.new.self c.in-None.is c.next.ensures.steps in
    let all : length c.loop-lane.yielded ≡ length nears = end.1 ∙ pair_count nears fars c.requires.lanes in
    let listed = subst (λ k. AreListed nears fars k c.loop-lane.undelivered.items c.loop-lane.untaken.items) all c.loop-lane.invariant.listed in
    record {
      undelivered = λ p count. listed.undelivered ∙ ap (λ k. flat_map (undelivered_in rest) (range_with_len 0 k)) (sym count);
      untaken = λ p count. listed.untaken ∙ ap (λ k. flat_map (untaken_in rest) (range_with_len 0 k)) (sym count);
      rests = λ l. all_rest nears fars l listed.rests;
      undelivered_count =
          λ p count.
          ap length (listed.undelivered ∙ ap (λ k. flat_map (undelivered_in rest) (range_with_len 0 k)) (sym count)) ∙ undelivered_length rest (lanes_of p);
      untaken_count =
          λ p count.
          ap length (listed.untaken ∙ ap (λ k. flat_map (untaken_in rest) (range_with_len 0 k)) (sym count)) ∙ untaken_length rest (lanes_of p);
    }
