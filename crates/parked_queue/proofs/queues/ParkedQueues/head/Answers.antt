use Rattle.std.proofs.Common.{◌≤◌, ◌%◌, ◌∙◌, Some, ap, arith, refl, subst, sym}
use Rattle.small_set.specs.SmallSets.{Has}
use Rattle.parked_queue.specs.Marks.{marks_at}
use Rattle.parked_queue.specs.Parkings.{parted_by}
use Rattle.parked_queue.specs.Waits.{IsFirstAllowed, Waits, waits_at}
use Rattle.parked_queue.proofs.Calls.{first_is, level_list, marks_are, masked_slots}
use Rattle.parked_queue.proofs.Firsts.{main_first}
use Rattle.parked_queue.proofs.Named.{first_named}
use Rattle.parked_queue.proofs.Parkings.{asked, level_fits, level_there}
use Rattle.parked_queue.proofs.Seen.{names_here}
use Rattle.parked_queue.proofs.Slots.{none_marked}
use Rattle.parked_queue.proofs.queues.ParkedQueues.head.Goals as goal

pub bounds-asked-level : goal.bounds-asked-level
bounds-asked-level c = c.args.level.few

pub overflow_add-asked : goal.overflow_add-asked
overflow_add-asked c = omega (arith, level_fits c.self.inside.lists c.self.inside.queues.items c.args.self.now c.args.queue c.self.invariant.parkings c.self.view_is c.requires c.index-asked.result.now c.index-asked.ensures c.args.level.number c.args.level.few)

pub head-requires : goal.head-requires
head-requires c = level_there c.self.inside.lists c.self.inside.queues.items c.args.self.now c.args.queue c.self.invariant.parkings c.self.view_is c.requires c.index-asked.result.now c.index-asked.ensures c.args.level.number c.args.level.few

pub slot_in-slot-requires : goal.slot_in-slot-requires
slot_in-slot-requires c = masked_slots c.self.inside.lists c.index-asked.result.now (asked c.self.inside.lists c.self.inside.queues.items c.args.self.now c.args.queue c.self.invariant.parkings c.self.view_is c.requires c.index-asked.result.now c.index-asked.ensures).part

pub has-requires : goal.has-requires
has-requires c =
    let a = asked c.self.inside.lists c.self.inside.queues.items c.args.self.now c.args.queue c.self.invariant.parkings c.self.view_is c.requires c.index-asked.result.now c.index-asked.ensures in
    let few : c.index-asked.result.now.slots ≤ 64 = a.part.parking.waits.few in
    omega (arith, c.slot_in-slot.ensures.within)

pub returns-then-has-clause-first : goal.returns-then-has-clause-first
returns-then-has-clause-first c =
    let a = asked c.self.inside.lists c.self.inside.queues.items c.args.self.now c.args.queue c.self.invariant.parkings c.self.view_is c.requires c.index-asked.result.now c.index-asked.ensures in
    let v = parted_by c.self.inside.lists c.index-asked.result.now in
    let none = none_marked v c.args.level.number (marks_at c.index-asked.result.now.parked c.args.level.number) c.args.allowed c.both.result (marks_are c.self.inside.lists c.index-asked.result.now a.part c.args.level.number) c.both.ensures (c.if-not-is_empty.ensures.0 refl) in
    subst (λ w. IsFirstAllowed w c.args.level.number c.args.allowed c.in_ok-waiting.waiting.now) a.waits
    (main_first v c.args.level.number c.args.allowed a.part.parking.waits c.args.level.few none c.in_ok-waiting.waiting.now
    (sym (first_is c.self.inside.lists c.index-asked.result.now a.part c.args.level.number c.args.level.number (level_list c.self.inside.lists c.index-asked.result.now a.part c.args.level.number c.args.level.few) refl (Some c.in_ok-waiting.waiting.now) c.in_ok-waiting.ensures))
    (subst (Has c.args.allowed) (c.slot_in-slot.ensures.value ∙ ap (λ f. f % c.index-asked.result.now.slots) c.flow-flow.ensures) (c.has.ensures.0 c.if-has.true)))

pub returns-then-has-clause-slot : goal.returns-then-has-clause-slot
returns-then-has-clause-slot c =
    let a = asked c.self.inside.lists c.self.inside.queues.items c.args.self.now c.args.queue c.self.invariant.parkings c.self.view_is c.requires c.index-asked.result.now c.index-asked.ensures in
    c.slot_in-slot.ensures.value ∙ ap (λ f. f % c.index-asked.result.now.slots) c.flow-flow.ensures ∙ ap (λ (w : Waits). c.in_ok-waiting.waiting.now.event.flow % w.slots) a.waits

pub returns-then-has-clause-waits : goal.returns-then-has-clause-waits
returns-then-has-clause-waits c = (asked c.self.inside.lists c.self.inside.queues.items c.args.self.now c.args.queue c.self.invariant.parkings c.self.view_is c.requires c.index-asked.result.now c.index-asked.ensures).sound

pub returns-else-has-clause-waits : goal.returns-else-has-clause-waits
returns-else-has-clause-waits c = (asked c.self.inside.lists c.self.inside.queues.items c.args.self.now c.args.queue c.self.invariant.parkings c.self.view_is c.requires c.index-asked.result.now c.index-asked.ensures).sound

pub returns-in_err-waiting-clause-waits : goal.returns-in_err-waiting-clause-waits
returns-in_err-waiting-clause-waits c = (asked c.self.inside.lists c.self.inside.queues.items c.args.self.now c.args.queue c.self.invariant.parkings c.self.view_is c.requires c.index-asked.result.now c.index-asked.ensures).sound

pub returns-then-not-is_empty-clause-waits : goal.returns-then-not-is_empty-clause-waits
returns-then-not-is_empty-clause-waits c = (asked c.self.inside.lists c.self.inside.queues.items c.args.self.now c.args.queue c.self.invariant.parkings c.self.view_is c.requires c.index-asked.result.now c.index-asked.ensures).sound

pub returns-then-has-clause-names : goal.returns-then-has-clause-names
returns-then-has-clause-names c =
    first_named c.args.queue c.args.level.number (waits_at c.args.self.now c.args.queue) c.args.allowed c.in_ok-waiting.waiting.now
    (names_here _ c.args.self.now c.self.inside.levels.items c.self.inside.busy c.args.queue c.self.invariant.noted c.self.view_is c.requires)
    (returns-then-has-clause-first c)
