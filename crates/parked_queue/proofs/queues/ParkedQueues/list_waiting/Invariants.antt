use Rattle.std.proofs.Common.{◌≡◌, ◌++◌, map, vec_capacity}
use Rattle.parked_queue.specs.Parts.{parts_of}
use Rattle.parked_queue.specs.Parkings.{parted_by}
use Rattle.parked_queue.specs.Lists.{named_delivery}
use Rattle.parked_queue.proofs.queues.ParkedQueues.list_waiting.Given as goal

abbrev pub invariant-loop-list : goal.invariant-loop-list
invariant-loop-list l =
    record {
      deliveries : l.into.items ≡ l.initial.into.items ++ map named_delivery (parts_of (parted_by l.self-inside.lists l.asked) l.list);
      room : vec_capacity l.into ≡ vec_capacity l.initial.into;
    }
