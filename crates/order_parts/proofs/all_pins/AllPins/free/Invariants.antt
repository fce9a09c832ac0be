use Rattle.order_parts.specs.QueuePins.{AreFreePins}
use Rattle.order_parts.proofs.all_pins.AllPins.free.Given as goal

abbrev pub invariant-loop-queue : goal.invariant-loop-queue
invariant-loop-queue l = AreFreePins l.shape l.queue l.queues.items
