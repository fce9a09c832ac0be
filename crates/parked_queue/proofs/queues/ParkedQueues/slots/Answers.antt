use Rattle.std.proofs.Common.{ap}
use Rattle.parked_queue.specs.Waits.{Waits}
use Rattle.parked_queue.proofs.Parkings.{asked}
use Rattle.parked_queue.proofs.queues.ParkedQueues.slots.Goals as goal

pub returns : goal.returns
returns c = ap (λ (w : Waits). w.slots) (asked c.self.inside.lists c.self.inside.queues.items c.args.self.now c.args.queue c.self.invariant.parkings c.self.view_is c.requires c.index-asked.result.now c.index-asked.ensures).waits
