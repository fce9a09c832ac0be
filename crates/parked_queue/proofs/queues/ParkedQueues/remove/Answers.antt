use Rattle.std.proofs.Common.{◌<◌, ◌∙◌, ap, length, subst, sym}
use Rattle.parked_queue.specs.Waits.{IsOnlyOf, Waits, without_number}
use Rattle.parked_queue.proofs.Parkings.{asked, queues_changed, sound_changed, waits_changed}
use Rattle.parked_queue.proofs.Seen.{noted_last, noted_less}
use Rattle.parked_queue.proofs.queues.ParkedQueues.remove.Goals as goal

pub remove-requires-clause-parted : goal.remove-requires-clause-parted
remove-requires-clause-parted c =
    let a = asked c.self.inside.lists c.self.inside.queues.items c.args.self.now c.args.queue c.self.invariant.parkings c.self.view_is c.requires.there c.index_mut-left.result.now c.index_mut-left.ensures.value in
    a.part

pub remove-requires-clause-slot : goal.remove-requires-clause-slot
remove-requires-clause-slot c =
    let a = asked c.self.inside.lists c.self.inside.queues.items c.args.self.now c.args.queue c.self.invariant.parkings c.self.view_is c.requires.there c.index_mut-left.result.now c.index_mut-left.ensures.value in
    subst (λ (w : Waits). c.args.slot < w.slots) (sym a.waits) c.requires.slot

pub remove-requires-clause-only : goal.remove-requires-clause-only
remove-requires-clause-only c =
    let a = asked c.self.inside.lists c.self.inside.queues.items c.args.self.now c.args.queue c.self.invariant.parkings c.self.view_is c.requires.there c.index_mut-left.result.now c.index_mut-left.ensures.value in
    subst (λ w. IsOnlyOf w c.args.level.number c.args.slot c.args.number) (sym a.waits) c.requires.only

pub invariant_of-self : goal.invariant_of-self
invariant_of-self c =
    let a = asked c.self.inside.lists c.self.inside.queues.items c.args.self.now c.args.queue c.self.invariant.parkings c.self.view_is c.requires.there c.index_mut-left.result.now c.index_mut-left.ensures.value in
    let none = ap (λ w. length (without_number w c.args.number).waiting) (sym a.waits) ∙ (ap (λ (w : Waits). length w.waiting) (sym c.remove.ensures.waits) ∙ (sym c.remove.ensures.part.count ∙ c.if-left-eq0.true)) in
    queues_changed c.self.inside.lists c.self.inside.queues.items c.args.self.now c.args.queue c.self.invariant.parkings c.self.view_is c.requires.there c.remove.new.lists c.index_mut-left.result.now c.remove.new.self (λ w. without_number w c.args.number) c.index_mut-left.ensures.value c.remove.ensures c.self.inside.levels.items c.remove-then-left-eq0.new.self
    (noted_last _ c.args.self.now c.self.inside.levels.items c.self.inside.busy c.args.queue c.self.invariant.noted c.self.view_is c.requires.there c.args.number c.remove-then-left-eq0.new.self c.remove-then-left-eq0.ensures.others none)

pub invariant_of-self-else-left-eq0 : goal.invariant_of-self-else-left-eq0
invariant_of-self-else-left-eq0 c =
    queues_changed c.self.inside.lists c.self.inside.queues.items c.args.self.now c.args.queue c.self.invariant.parkings c.self.view_is c.requires.there c.remove.new.lists c.index_mut-left.result.now c.remove.new.self (λ w. without_number w c.args.number) c.index_mut-left.ensures.value c.remove.ensures c.self.inside.levels.items c.self.inside.busy (noted_less _ c.args.self.now c.self.inside.levels.items c.self.inside.busy c.args.queue c.self.invariant.noted c.self.view_is c.requires.there c.args.number)

pub returns-then-left-eq0-clause-value : goal.returns-then-left-eq0-clause-value
returns-then-left-eq0-clause-value c = waits_changed c.self.inside.lists c.self.inside.queues.items c.args.self.now c.args.queue c.self.invariant.parkings c.self.view_is c.requires.there c.remove.new.lists c.index_mut-left.result.now c.remove.new.self (λ w. without_number w c.args.number) c.index_mut-left.ensures.value c.remove.ensures

pub returns-then-left-eq0-clause-waits : goal.returns-then-left-eq0-clause-waits
returns-then-left-eq0-clause-waits c = sound_changed c.self.inside.lists c.self.inside.queues.items c.args.self.now c.args.queue c.self.invariant.parkings c.self.view_is c.requires.there c.remove.new.lists c.index_mut-left.result.now c.remove.new.self (λ w. without_number w c.args.number) c.index_mut-left.ensures.value c.remove.ensures

pub returns-else-left-eq0-clause-value : goal.returns-else-left-eq0-clause-value
returns-else-left-eq0-clause-value c = waits_changed c.self.inside.lists c.self.inside.queues.items c.args.self.now c.args.queue c.self.invariant.parkings c.self.view_is c.requires.there c.remove.new.lists c.index_mut-left.result.now c.remove.new.self (λ w. without_number w c.args.number) c.index_mut-left.ensures.value c.remove.ensures

pub returns-else-left-eq0-clause-waits : goal.returns-else-left-eq0-clause-waits
returns-else-left-eq0-clause-waits c = sound_changed c.self.inside.lists c.self.inside.queues.items c.args.self.now c.args.queue c.self.invariant.parkings c.self.view_is c.requires.there c.remove.new.lists c.index_mut-left.result.now c.remove.new.self (λ w. without_number w c.args.number) c.index_mut-left.ensures.value c.remove.ensures
