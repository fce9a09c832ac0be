use Rattle.order_parts.proofs.Buffers.{AreBuffers}
use Rattle.order_parts.proofs.all_orders.AllOrders.new.Given as goal

abbrev pub invariant-loop-queue : goal.invariant-loop-queue
invariant-loop-queue l = AreBuffers l.queues l.queue-index l.orders.items
