use Rattle.evt_types.specs.declared.shape.TheConstants.{MAX_ALL_SLOTS}
use Rattle.std.proofs.Common.{◌≡◌, ◌+◌, take}
use Rattle.std.specs.List.{sum_by}
use Rattle.evt_types.specs.Plan.{atomic_slots}
use Rattle.evt_types.proofs.check.exceeds_slots.Given as goal

abbrev pub invariant-loop-queue : goal.invariant-loop-queue
invariant-loop-queue l = l.left + sum_by atomic_slots (take l.queue-index l.queues) ≡ MAX_ALL_SLOTS
