use Rattle.std.proofs.Common.{length}
use Rattle.parked_queue.specs.Parkings.{IsChanged, parted_by, waits_by}
use Rattle.parked_queue.specs.Parted.{HasNoneParked, list_in}
use Rattle.parked_queue.proofs.parking.Parking.first_main.Given as goal

abbrev pub invariant-loop-waiting : goal.invariant-loop-waiting
invariant-loop-waiting l =
    record {
      changed : IsChanged l.fn.lists l.fn.self l.lists l.self (waits_by l.fn.lists l.fn.self);
      none : HasNoneParked (parted_by l.lists l.self) l.level.number l.allowed;
    }

abbrev pub decreases-loop-waiting : goal.decreases-loop-waiting
decreases-loop-waiting l = length (list_in (parted_by l.lists l.self) l.level.number)
