use Rattle.order_parts.proofs.HeldSlots.{first_off, next_off, all_off}
use Rattle.order_parts.proofs.pins.slots_off.Goals as goal

pub loop-lane-init : goal.loop-lane-init
loop-lane-init c = first_off c.args.held.now c.args.lanes c.below-slots.result c.below-slots.ensures

pub loop-lane-preserved : goal.loop-lane-preserved
loop-lane-preserved c =
    next_off c.args.held.now c.args.lanes c.loop-lane.left c.pop.new.self c.loop-lane.slots c.except-slots.result c.in-Some.lane
    c.in-Some.ensures.first.within c.in-Some.ensures.first.there c.in-Some.ensures.gone c.in-Some.ensures.others c.except-slots.ensures c.loop-lane.invariant

pub returns : goal.returns
returns c ps s held = all_off ps c.args.held.now c.args.lanes c.loop-lane.left c.loop-lane.slots held c.in_default.ensures.none c.loop-lane.invariant s
