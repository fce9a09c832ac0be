use Rattle.order_parts.proofs.Roomy.{all_roomy}
use Rattle.order_parts.proofs.histories.Histories.new.Goals as goal

pub invariant_of-result : goal.invariant_of-result
invariant_of-result c = all_roomy c.args.shape.now c.in_ok-empty_lanes.field-0.items c.below.result c.limit.ensures.within c.in_ok-empty_lanes.ensures c.below.ensures
