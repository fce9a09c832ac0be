use Rattle.std.proofs.Common.{◌<◌, subst}
use Rattle.parked_queue.specs.Waits.{Waits}
use Rattle.parked_queue.proofs.Calls.{marks_are}
use Rattle.parked_queue.proofs.Parkings.{asked}
use Rattle.parked_queue.proofs.queues.ParkedQueues.parked_slots.Goals as goal

pub bounds-index-level : goal.bounds-index-level
bounds-index-level c = c.args.level.few

pub returns : goal.returns
returns c =
    let a = asked c.self.inside.lists c.self.inside.queues.items c.args.self.now c.args.queue c.self.invariant.parkings c.self.view_is c.requires c.index.result.now c.index.ensures in
    λ slot has. subst (λ (w : Waits). slot < w.slots) a.waits ((marks_are c.self.inside.lists c.index.result.now a.part c.args.level.number).there slot has)
