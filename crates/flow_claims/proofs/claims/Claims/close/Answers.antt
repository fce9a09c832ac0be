-- One lane more is closed, and at the end all stints weigh what all ends weigh.
use Rattle.std.proofs.Common.{rules, ◌∙◌, ◌<◌, ◌≤◌, List, All, arith, length, map, ap, subst, sym, sum_by, vec_capacity}
use Rattle.lane_rings.specs.Ends.{received_by, answered}
use Rattle.lane_rings.specs.Identity.{far_id}
use Rattle.lane_rings.specs.declared.far.Far.{Far}
use Rattle.flow_claims.specs.declared.seating.Past.{Past}
use Rattle.flow_claims.specs.Ends.{IsEnd}
use Rattle.flow_claims.specs.Stints.{received_in, answered_in}
use Rattle.flow_claims.specs.Claims.{seating, lanes_of}
use Rattle.flow_claims.proofs.ByLane.{ends_weigh}
use Rattle.flow_claims.proofs.Calls.{one_more, each_more, all_out, still_room}
use Rattle.flow_claims.proofs.claims.Claims.close.Goals as goal

pub loop-lane-preserved : goal.loop-lane-preserved
loop-lane-preserved c =
    let was = c.loop-lane.invariant in
    let lanes : List Far = lanes_of c.args.self.now in
    let far : Far = c.close_one.result in
    let Of : List Past → Type 0 = λ ps. IsEnd lanes ps c.loop-lane.lane far in
    let is : Of c.args.seat.seat.me.0.finished = subst Of was.5 c.close_one.ensures.end in (
      c.close_one.ensures.seat.0,
      c.close_one.ensures.seat.1,
      c.close_one.ensures.whole.0,
      c.close_one.ensures.whole.1,
      c.close_one.ensures.stints.0 ∙ was.4,
      c.close_one.ensures.stints.1 ∙ was.5,
      ap (map far_id) c.push_reserved.ensures.items ∙ one_more lanes c.loop-lane.into.items c.loop-lane.lane far was.6 is.of_lane,
      each_more (λ i x. IsEnd lanes c.args.seat.seat.me.0.finished i x) lanes c.loop-lane.into.items c.push_reserved.new.self.items c.loop-lane.lane far
          c.push_reserved.ensures.items was.6 was.7 is.of_lane is,
      c.push_reserved.ensures.capacity ∙ was.8,
    )

pub push_reserved-requires : goal.push_reserved-requires
push_reserved-requires c =
    let was = c.loop-lane.invariant in
    let lanes : List Far = lanes_of c.args.self.now in
    let fits : length lanes ≤ vec_capacity c.loop-lane.into = subst (λ n. length lanes ≤ n) (sym was.8) c.requires.room.1 in
    let less : length c.loop-lane.into.items < vec_capacity c.loop-lane.into =
    still_room lanes c.loop-lane.into.items c.loop-lane.lane (vec_capacity c.loop-lane.into) was.6 (search rules) fits
    in omega (arith, less)

pub returns-clause-received : goal.returns-clause-received
returns-clause-received c f =
    let exist = subst (λ ls. All (λ p. p.lane < length ls) (seating c.args.seat).finished) c.requires.seat.1 c.args.seat.lanes_exist in
    ends_weigh (λ p. sum_by f (received_in p)) (λ far. sum_by f (received_by far)) (seating c.args.seat).finished (length (lanes_of c.args.self.now)) c.loop-lane.into.items exist
    (all_out (lanes_of c.args.self.now) c.loop-lane.into.items c.loop-lane.lane c.loop-lane.invariant.6 (search rules)) (λ i far e. (c.loop-lane.invariant.7 i far e).received f)

pub returns-clause-answered : goal.returns-clause-answered
returns-clause-answered c f =
    let exist = subst (λ ls. All (λ p. p.lane < length ls) (seating c.args.seat).finished) c.requires.seat.1 c.args.seat.lanes_exist in
    ends_weigh (λ p. sum_by f (answered_in p)) (λ far. sum_by f (answered far)) (seating c.args.seat).finished (length (lanes_of c.args.self.now)) c.loop-lane.into.items exist
    (all_out (lanes_of c.args.self.now) c.loop-lane.into.items c.loop-lane.lane c.loop-lane.invariant.6 (search rules)) (λ i far e. (c.loop-lane.invariant.7 i far e).answered f)
