use Rattle.std.proofs.Common.{◌≡◌}
use Rattle.std.specs.List.{range_with_len, flat_map}
use Rattle.evt_types.specs.Plan.{lanes_at}
use Rattle.evt_types.proofs.flows.slots_of_queues.Given as goal

abbrev pub invariant-loop-queue : goal.invariant-loop-queue
invariant-loop-queue l = l.flows.items ≡ flat_map (lanes_at l.queues) (range_with_len 0 l.queue)
