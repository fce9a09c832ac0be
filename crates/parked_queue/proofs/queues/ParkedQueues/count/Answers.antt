use Rattle.std.proofs.Common.{◌∙◌, ap, length, subst}
use Rattle.parked_queue.specs.Waits.{AreWaits, Waits}
use Rattle.parked_queue.proofs.Parkings.{asked}
use Rattle.parked_queue.proofs.queues.ParkedQueues.count.Goals as goal

pub returns-clause-value : goal.returns-clause-value
returns-clause-value c =
    let a = asked c.self.inside.lists c.self.inside.queues.items c.args.self.now c.args.queue c.self.invariant.parkings c.self.view_is c.requires c.index.result.now c.index.ensures in
    a.part.count ∙ ap (λ (w : Waits). length w.waiting) a.waits

pub returns-clause-waits : goal.returns-clause-waits
returns-clause-waits c =
    let a = asked c.self.inside.lists c.self.inside.queues.items c.args.self.now c.args.queue c.self.invariant.parkings c.self.view_is c.requires c.index.result.now c.index.ensures in
    subst AreWaits a.waits a.part.parking.waits
