use Rattle.std.proofs.Common.{◌≡◌, set, take}
use Rattle.parked_queue.specs.Rows.{without_all}
use Rattle.parked_queue.specs.Waits.{waits_at}
use Rattle.parked_queue.proofs.queues.ParkedQueues.remove_each.Given as goal

abbrev pub invariant-loop-delivery : goal.invariant-loop-delivery
invariant-loop-delivery l = l.self ≡ set l.fn.self l.queue (without_all (waits_at l.fn.self l.queue) (take l.delivery-index l.row))
