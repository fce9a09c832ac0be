use Rattle.std.proofs.Common.{◌≡◌, ◌∙◌, ◌+◌, ap, arith, length, set, sym}
use Rattle.parked_queue.specs.Waits.{Waits, waits_at}
use Rattle.parked_queue.specs.Parkings.{waits_by}
use Rattle.parked_queue.proofs.Calls.{level_list, list_fits, list_there}
use Rattle.parked_queue.proofs.Parkings.{asked}
use Rattle.parked_queue.proofs.RowCalls.{queues_entered, row_before, row_entered, row_first, row_more, row_sound, waits_entered}
use Rattle.parked_queue.proofs.queues.ParkedQueues.accept_row.Goals as goal

pub overflow_add-entered-2 : goal.overflow_add-entered-2
overflow_add-entered-2 c =
    let a = asked c.self.inside.lists c.self.inside.queues.items c.args.self.now c.args.queue c.self.invariant.parkings c.self.view_is c.requires.there c.index_mut-entered.result.now c.index_mut-entered.ensures.value in
    let count = a.part.count in
    let many : length (waits_by c.self.inside.lists c.index_mut-entered.result.now).waiting ≡ length (waits_at c.args.self.now c.args.queue).waiting = ap (λ (w : Waits). length w.waiting) a.waits in
    let limit : c.self.inside.lists.room ≡ (waits_at c.args.self.now c.args.queue).room = ap (λ (w : Waits). w.room) a.waits in
    let share = a.share in
    let small = a.small in
    omega (arith, c.requires.room)

pub overflow_add-list : goal.overflow_add-list
overflow_add-list c =
    let a = asked c.self.inside.lists c.self.inside.queues.items c.args.self.now c.args.queue c.self.invariant.parkings c.self.view_is c.requires.there c.index_mut-entered.result.now c.index_mut-entered.ensures.value in
    let fits = list_fits c.self.inside.lists c.index_mut-entered.result.now a.part c.args.level.number (level_list c.self.inside.lists c.index_mut-entered.result.now a.part c.args.level.number c.args.level.few) in
    omega arith

pub push_row-requires-clause-list : goal.push_row-requires-clause-list
push_row-requires-clause-list c =
    let a = asked c.self.inside.lists c.self.inside.queues.items c.args.self.now c.args.queue c.self.invariant.parkings c.self.view_is c.requires.there c.index_mut-entered.result.now c.index_mut-entered.ensures.value in
    list_there c.self.inside.lists c.index_mut-entered.result.now a.part c.args.level.number (level_list c.self.inside.lists c.index_mut-entered.result.now a.part c.args.level.number c.args.level.few)

pub invariant_of-self : goal.invariant_of-self
invariant_of-self c =
    queues_entered c.args.replies.now c.self.inside.lists c.push_row.new.self c.self.inside.queues.items c.args.self.now c.args.queue (c.index_mut-entered.result.now.base + c.args.level.number) c.index_mut-entered.result.now (set c.self.inside.levels.items c.args.queue c.add.new.self) c.add-then-push_row.new.self c.push_row.ensures.value (row_entered c.args.replies.now c.self.inside.lists c.self.inside.queues.items c.args.self.now c.args.queue c.index_mut-entered.result.now c.args.level c.self.invariant.parkings c.self.view_is c.requires.there c.index_mut-entered.ensures.value c.requires.named c.requires.room c.requires.numbers)
    (row_first _ c.args.self.now c.self.inside.levels.items c.self.inside.busy c.args.queue c.args.level.number c.self.invariant.noted c.self.view_is c.requires.there c.args.replies.now c.requires.some c.requires.named c.index_mut.result.now c.add.new.self c.add-then-push_row.new.self c.index_mut.ensures.value c.add.ensures.there c.add.ensures.others c.add-then-push_row.ensures.there c.add-then-push_row.ensures.others)

pub invariant_of-self-else-push_row : goal.invariant_of-self-else-push_row
invariant_of-self-else-push_row c =
    queues_entered c.args.replies.now c.self.inside.lists c.push_row.new.self c.self.inside.queues.items c.args.self.now c.args.queue (c.index_mut-entered.result.now.base + c.args.level.number) c.index_mut-entered.result.now c.self.inside.levels.items c.self.inside.busy c.push_row.ensures.value (row_entered c.args.replies.now c.self.inside.lists c.self.inside.queues.items c.args.self.now c.args.queue c.index_mut-entered.result.now c.args.level c.self.invariant.parkings c.self.view_is c.requires.there c.index_mut-entered.ensures.value c.requires.named c.requires.room c.requires.numbers)
    (row_more _ c.args.self.now c.self.inside.levels.items c.self.inside.busy c.args.queue c.args.level.number c.self.invariant.noted c.self.view_is c.requires.there c.args.replies.now
    (row_before c.args.replies.now c.self.inside.lists c.self.inside.queues.items c.args.self.now c.args.queue c.index_mut-entered.result.now c.args.level c.self.invariant.parkings c.self.view_is c.requires.there c.index_mut-entered.ensures.value c.requires.some c.requires.named (sym c.push_row.ensures.first ∙ c.if-push_row.false)) c.requires.named)

pub returns-then-push_row-clause-value : goal.returns-then-push_row-clause-value
returns-then-push_row-clause-value c =
    waits_entered c.args.replies.now c.self.inside.lists c.push_row.new.self c.self.inside.queues.items c.args.self.now c.args.queue (c.index_mut-entered.result.now.base + c.args.level.number) c.index_mut-entered.result.now c.push_row.ensures.value (row_entered c.args.replies.now c.self.inside.lists c.self.inside.queues.items c.args.self.now c.args.queue c.index_mut-entered.result.now c.args.level c.self.invariant.parkings c.self.view_is c.requires.there c.index_mut-entered.ensures.value c.requires.named c.requires.room c.requires.numbers)

pub returns-else-push_row-clause-value : goal.returns-else-push_row-clause-value
returns-else-push_row-clause-value c =
    waits_entered c.args.replies.now c.self.inside.lists c.push_row.new.self c.self.inside.queues.items c.args.self.now c.args.queue (c.index_mut-entered.result.now.base + c.args.level.number) c.index_mut-entered.result.now c.push_row.ensures.value (row_entered c.args.replies.now c.self.inside.lists c.self.inside.queues.items c.args.self.now c.args.queue c.index_mut-entered.result.now c.args.level c.self.invariant.parkings c.self.view_is c.requires.there c.index_mut-entered.ensures.value c.requires.named c.requires.room c.requires.numbers)

pub returns-then-push_row-clause-waits : goal.returns-then-push_row-clause-waits
returns-then-push_row-clause-waits c =
    row_sound c.args.replies.now c.self.inside.lists c.self.inside.queues.items c.args.self.now c.args.queue (c.index_mut-entered.result.now.base + c.args.level.number) c.index_mut-entered.result.now c.requires.there (row_entered c.args.replies.now c.self.inside.lists c.self.inside.queues.items c.args.self.now c.args.queue c.index_mut-entered.result.now c.args.level c.self.invariant.parkings c.self.view_is c.requires.there c.index_mut-entered.ensures.value c.requires.named c.requires.room c.requires.numbers)

pub returns-else-push_row-clause-waits : goal.returns-else-push_row-clause-waits
returns-else-push_row-clause-waits c =
    row_sound c.args.replies.now c.self.inside.lists c.self.inside.queues.items c.args.self.now c.args.queue (c.index_mut-entered.result.now.base + c.args.level.number) c.index_mut-entered.result.now c.requires.there (row_entered c.args.replies.now c.self.inside.lists c.self.inside.queues.items c.args.self.now c.args.queue c.index_mut-entered.result.now c.args.level c.self.invariant.parkings c.self.view_is c.requires.there c.index_mut-entered.ensures.value c.requires.named c.requires.room c.requires.numbers)
