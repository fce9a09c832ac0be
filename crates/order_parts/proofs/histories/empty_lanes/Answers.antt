use Rattle.std.proofs.Common.{◌≡◌, ◌+◌, arith, subst, sym}
use Rattle.evt_types.specs.Plan.{lanes_of}
use Rattle.order_parts.specs.Histories.{IsEmptyLane, AreEmptyLanes}
use Rattle.order_parts.proofs.EmptyLanes.{lanes_none, lanes_more}
use Rattle.order_parts.proofs.histories.empty_lanes.Goals as goal

pub loop-lane-init : goal.loop-lane-init
loop-lane-init c = subst (AreEmptyLanes c.args.shape.now 0) (sym c.in_ok-lanes.ensures.items) (lanes_none c.args.shape.now)

pub loop-lane-preserved : goal.loop-lane-preserved
loop-lane-preserved c =
    subst (AreEmptyLanes c.args.shape.now (c.loop-lane.lane + 1)) (sym c.in_ok-push.ensures.items)
    (lanes_more c.args.shape.now c.loop-lane.lane c.loop-lane.lanes.items c.in_ok-new.field-0 c.loop-lane.invariant (subst (λ n. IsEmptyLane n c.in_ok-new.field-0) c.depth_of.ensures.value c.in_ok-new.ensures))

pub returns : goal.returns
returns c =
    let few = c.lanes-count.ensures.value in
    let e : c.loop-lane.lane ≡ lanes_of c.args.shape.now = omega arith in
    subst (λ n. AreEmptyLanes c.args.shape.now n c.loop-lane.lanes.items) e c.loop-lane.invariant
