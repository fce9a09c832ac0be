use Rattle.std.proofs.Common.{[], refl, subst, sym}
use Rattle.transcripts.specs.Standing.{Stands}
use Rattle.transcripts.proofs.WholeStands.{stands_none}
use Rattle.sched_core.proofs.News.{core_made, view_made}
use Rattle.sched_core.proofs.state.Core.new.Goals as goal

pub invariant_of-result : goal.invariant_of-result
invariant_of-result c =
    core_made c.args.shape c.args.shape.queues c.in-Ok.parts.1 c.bound-bound.result c.log_room-log_room.result c.in-Ok.parts.0 c.in-Ok-lane_parts.parts.0 c.in-Ok-lane_parts.parts.1 c.in-Ok-slot_parts.parts.0 c.in-Ok-queue_sets.sets.0 c.in-Ok-queue_sets.sets.1 c.in-Ok-slot_parts.parts.1 c.in-Ok-all_open.sets
    refl c.in-Ok.ensures.orders c.bound-bound.ensures.value c.log_room-log_room.ensures c.limit.ensures.within c.bound-bound.type_inv
    c.in-Ok.ensures.waits c.in-Ok-lane_parts.ensures.lanes c.in-Ok-lane_parts.ensures.extras c.in-Ok-slot_parts.ensures.pins c.in-Ok-queue_sets.ensures.links c.in-Ok-queue_sets.ensures.ahead c.in-Ok-slot_parts.ensures.lanes c.in-Ok-all_open.ensures

pub returns-clause-empty : goal.returns-clause-empty
returns-clause-empty c =
    view_made c.args.shape c.args.shape.queues c.in-Ok.parts.1 c.bound-bound.result c.log_room-log_room.result c.in-Ok.parts.0 c.in-Ok-lane_parts.parts.0 c.in-Ok-lane_parts.parts.1 c.in-Ok-slot_parts.parts.0 c.in-Ok-queue_sets.sets.0 c.in-Ok-queue_sets.sets.1 c.in-Ok-slot_parts.parts.1 c.in-Ok-all_open.sets
    refl c.in-Ok.ensures.orders c.in-Ok.ensures.waits c.in-Ok-lane_parts.ensures.lanes c.in-Ok-lane_parts.ensures.extras

pub returns-clause-stands : goal.returns-clause-stands
returns-clause-stands c = subst (Stands []) (sym (returns-clause-empty c)) (stands_none c.args.shape)
