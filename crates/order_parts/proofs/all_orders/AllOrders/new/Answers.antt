use Rattle.std.proofs.Common.{◌+◌, map, subst, sym, ap, ◌∙◌}
use Rattle.std.proofs.lemmas.List.{take_all}
use Rattle.order_parts.specs.Reorder.{empty}
use Rattle.order_parts.proofs.Buffers.{AreBuffers, no_buffers, buffer_more}
use Rattle.evt_types.specs.Plan.{kept_room}
use Rattle.order_parts.proofs.all_orders.AllOrders.new.Goals as goal

pub loop-queue-init : goal.loop-queue-init
loop-queue-init c = subst (AreBuffers c.args.queues.now 0) (sym (c.in_ok-orders.ensures.items)) (no_buffers c.args.queues.now)

pub loop-queue-preserved : goal.loop-queue-preserved
loop-queue-preserved c =
    subst (AreBuffers c.args.queues.now (c.loop-queue.queue-index + 1)) (sym (c.in_ok-push.ensures.items))
    (buffer_more c.args.queues.now c.loop-queue.queue-index c.loop-queue.orders.items _ c.in_ok-buffer.field-0 c.loop-queue-test.true c.in_ok-buffer.ensures c.loop-queue.invariant)

pub invariant_of-result : goal.invariant_of-result
invariant_of-result c = record { buffers = c.loop-queue.invariant.room }

pub returns : goal.returns
returns c = c.loop-queue.invariant.shown ∙ ap (map (λ q. empty (kept_room q))) (take_all c.loop-queue.queue-index c.args.queues.now c.loop-queue-test.false)
