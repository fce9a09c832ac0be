use Rattle.std.proofs.Common.{◌<◌, ◌%◌, ◌∙◌, ap, subst}
use Rattle.parked_queue.specs.Waits.{Waits}
use Rattle.parked_queue.proofs.Calls.{masked_slots}
use Rattle.parked_queue.proofs.Parkings.{asked}
use Rattle.parked_queue.proofs.queues.ParkedQueues.slot_of.Goals as goal

pub slot_in-requires : goal.slot_in-requires
slot_in-requires c = masked_slots c.self.inside.lists c.index-asked.result.now (asked c.self.inside.lists c.self.inside.queues.items c.args.self.now c.args.queue c.self.invariant.parkings c.self.view_is c.requires c.index-asked.result.now c.index-asked.ensures).part

pub returns-clause-value : goal.returns-clause-value
returns-clause-value c =
    let a = asked c.self.inside.lists c.self.inside.queues.items c.args.self.now c.args.queue c.self.invariant.parkings c.self.view_is c.requires c.index-asked.result.now c.index-asked.ensures in
    c.slot_in.ensures.value ∙ ap (λ (w : Waits). c.args.flow % w.slots) a.waits

pub returns-clause-within : goal.returns-clause-within
returns-clause-within c =
    let a = asked c.self.inside.lists c.self.inside.queues.items c.args.self.now c.args.queue c.self.invariant.parkings c.self.view_is c.requires c.index-asked.result.now c.index-asked.ensures in
    subst (λ (w : Waits). c.slot_in.result < w.slots) a.waits c.slot_in.ensures.within
