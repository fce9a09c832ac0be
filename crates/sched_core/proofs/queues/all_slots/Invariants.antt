use Rattle.std.proofs.Common.{◌≡◌}
use Rattle.parked_queue.specs.Waits.{AreSlots}
use Rattle.sched_core.specs.Inner.{queue_slots}
use Rattle.sched_core.proofs.queues.all_slots.Given as goal

abbrev pub invariant-loop-queue : goal.invariant-loop-queue
invariant-loop-queue l =
    record {
      slots : l.slots.items ≡ queue_slots l.shape l.queue;
      each : AreSlots l.slots.items;
    }
