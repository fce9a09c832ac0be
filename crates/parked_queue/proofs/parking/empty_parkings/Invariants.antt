use Rattle.std.proofs.Common.{◌≡◌, length}
use Rattle.parked_queue.specs.Parkings.{AreFirstParkings}
use Rattle.parked_queue.proofs.parking.empty_parkings.Given as goal

abbrev pub invariant-loop-count : goal.invariant-loop-count
invariant-loop-count l =
    record {
      count : length l.queues.items ≡ l.count-index;
      first : AreFirstParkings l.slots l.queues.items l.lists;
    }
