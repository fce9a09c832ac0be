use Rattle.std.proofs.Common.{◌≡◌, ◌+◌, ◌/◌, ◌%◌, refl, subst, sym, arith}
use Rattle.sched_core.proofs.Members.{each_more, one_more}
use Rattle.sched_core.specs.SlotLanes.{AreSlotLanes, IsSlotLane, slot_lane_count}
use Rattle.sched_core.proofs.slot_lanes.slot_lanes.Goals as goal

pub loop-index-init : goal.loop-index-init
loop-index-init c = subst (AreSlotLanes c.args.shape.now 0) (sym c.in_ok-lanes.ensures.items) (record { count = refl; each = λ k d h. absurd (omega arith) })

pub loop-index-preserved : goal.loop-index-preserved
loop-index-preserved c =
    let n = c.loop-index.index in
    let ls = c.loop-index.lanes.items in
    let l = c.slot_lane.result in
    subst (AreSlotLanes c.args.shape.now (n + 1)) (sym c.in_ok-push.ensures.items)
    (record {
      count = one_more ls l n c.loop-index.invariant.count;
      each = each_more (λ k o. IsSlotLane c.args.shape.now (k / 64) (k % 64) o) n ls l c.loop-index.invariant.count c.loop-index.invariant.each c.slot_lane.ensures;
    })

pub returns : goal.returns
returns c =
    let few = c.count-count.ensures in
    let e : c.loop-index.index ≡ slot_lane_count c.args.shape.now = omega arith in
    subst (λ n. AreSlotLanes c.args.shape.now n c.loop-index.lanes.items) e c.loop-index.invariant
