use Rattle.std.proofs.Common.{◌≡◌, ◌∙◌, ◌<◌, ◌^◌, ap, arith, length, set, subst, sym}
use Rattle.small_set.specs.SmallSets.{Has, SameBut}
use Rattle.parked_queue.specs.LevelSets.{members}
use Rattle.parked_queue.specs.Parkings.{waits_by}
use Rattle.parked_queue.specs.Waits.{AreWaits, Waits, all_waiting, waits_at, with_event}
use Rattle.parked_queue.proofs.Calls.{level_list, list_fits, list_there}
use Rattle.parked_queue.proofs.Parkings.{asked, queues_come, some_before, sound_come, waits_come}
use Rattle.parked_queue.proofs.Seen.{noted_first, noted_more, noted_there}
use Rattle.parked_queue.proofs.queues.ParkedQueues.accept.Goals as goal

pub overflow_add-entered : goal.overflow_add-entered
overflow_add-entered c =
    let a = asked c.self.inside.lists c.self.inside.queues.items c.args.self.now c.from-queue.result c.self.invariant.parkings c.self.view_is (subst (λ q. q < length c.args.self.now) (sym (c.from-queue.ensures ∙ c.queue.ensures)) c.requires.there) c.index_mut-entered.result.now c.index_mut-entered.ensures.value in
    let next : c.index_mut-entered.result.now.next ≡ (waits_at c.args.self.now c.from-queue.result).next = ap (λ (w : Waits). w.next) a.waits in
    omega (arith, subst (λ q. (waits_at c.args.self.now q).next < 2 ^ 63) (sym (c.from-queue.ensures ∙ c.queue.ensures)) c.requires.numbers)

pub overflow_add-entered-2 : goal.overflow_add-entered-2
overflow_add-entered-2 c =
    let a = asked c.self.inside.lists c.self.inside.queues.items c.args.self.now c.from-queue.result c.self.invariant.parkings c.self.view_is (subst (λ q. q < length c.args.self.now) (sym (c.from-queue.ensures ∙ c.queue.ensures)) c.requires.there) c.index_mut-entered.result.now c.index_mut-entered.ensures.value in
    let count = a.part.count in
    let many : length (waits_by c.self.inside.lists c.index_mut-entered.result.now).waiting ≡ length (waits_at c.args.self.now c.from-queue.result).waiting = ap (λ (w : Waits). length w.waiting) a.waits in
    let limit : c.self.inside.lists.room ≡ (waits_at c.args.self.now c.from-queue.result).room = ap (λ (w : Waits). w.room) a.waits in
    let share = a.share in
    let small = a.small in
    omega (arith, subst (λ q. all_waiting c.args.self.now < (waits_at c.args.self.now q).room) (sym (c.from-queue.ensures ∙ c.queue.ensures)) c.requires.room)

pub overflow_add-list : goal.overflow_add-list
overflow_add-list c =
    let a = asked c.self.inside.lists c.self.inside.queues.items c.args.self.now c.from-queue.result c.self.invariant.parkings c.self.view_is (subst (λ q. q < length c.args.self.now) (sym (c.from-queue.ensures ∙ c.queue.ensures)) c.requires.there) c.index_mut-entered.result.now c.index_mut-entered.ensures.value in
    let fits = list_fits c.self.inside.lists c.index_mut-entered.result.now a.part c.of-level.result.number (level_list c.self.inside.lists c.index_mut-entered.result.now a.part c.of-level.result.number c.of-level.result.few) in
    omega arith

pub push_event-requires-clause-list : goal.push_event-requires-clause-list
push_event-requires-clause-list c =
    let a = asked c.self.inside.lists c.self.inside.queues.items c.args.self.now c.from-queue.result c.self.invariant.parkings c.self.view_is (subst (λ q. q < length c.args.self.now) (sym (c.from-queue.ensures ∙ c.queue.ensures)) c.requires.there) c.index_mut-entered.result.now c.index_mut-entered.ensures.value in
    list_there c.self.inside.lists c.index_mut-entered.result.now a.part c.of-level.result.number (level_list c.self.inside.lists c.index_mut-entered.result.now a.part c.of-level.result.number c.of-level.result.few)

pub push_event-requires-clause-room : goal.push_event-requires-clause-room
push_event-requires-clause-room c =
    let a = asked c.self.inside.lists c.self.inside.queues.items c.args.self.now c.from-queue.result c.self.invariant.parkings c.self.view_is (subst (λ q. q < length c.args.self.now) (sym (c.from-queue.ensures ∙ c.queue.ensures)) c.requires.there) c.index_mut-entered.result.now c.index_mut-entered.ensures.value in
    let total = a.total in
    let limit : c.self.inside.lists.room ≡ (waits_at c.args.self.now c.from-queue.result).room = ap (λ (w : Waits). w.room) a.waits in
    omega (arith, subst (λ q. all_waiting c.args.self.now < (waits_at c.args.self.now q).room) (sym (c.from-queue.ensures ∙ c.queue.ensures)) c.requires.room)

pub index_mut-requires : goal.index_mut-requires
index_mut-requires c = omega (arith, noted_there _ c.args.self.now c.self.inside.levels.items c.self.inside.busy c.from-queue.result c.self.invariant.noted c.self.view_is (subst (λ q. q < length c.args.self.now) (sym (c.from-queue.ensures ∙ c.queue.ensures)) c.requires.there), c.self.inside.levels.ok.0)

pub invariant_of-self : goal.invariant_of-self
invariant_of-self c =
    queues_come c.self.inside.lists c.self.inside.queues.items c.args.self.now c.from-queue.result c.self.invariant.parkings c.self.view_is (subst (λ q. q < length c.args.self.now) (sym (c.from-queue.ensures ∙ c.queue.ensures)) c.requires.there) c.index_mut-entered.result.now c.index_mut-entered.ensures.value c.args.event.now c.of-level.result c.of-level.ensures (subst (λ q. all_waiting c.args.self.now < (waits_at c.args.self.now q).room) (sym (c.from-queue.ensures ∙ c.queue.ensures)) c.requires.room) (subst (λ q. (waits_at c.args.self.now q).next < 2 ^ 63) (sym (c.from-queue.ensures ∙ c.queue.ensures)) c.requires.numbers) c.push_event.new.self c.push_event.ensures.value (set c.self.inside.levels.items c.from-queue.result c.add.new.self) c.add-then-push_event.new.self
    (noted_first _ c.args.self.now c.self.inside.levels.items c.self.inside.busy c.from-queue.result c.self.invariant.noted c.self.view_is (subst (λ q. q < length c.args.self.now) (sym (c.from-queue.ensures ∙ c.queue.ensures)) c.requires.there) c.args.event.now (sym (c.from-queue.ensures ∙ c.queue.ensures)) c.index_mut.result.now c.add.new.self c.add-then-push_event.new.self c.index_mut.ensures.value (subst (Has (members c.add.new.self)) c.of-level.ensures c.add.ensures.there) (subst (λ k. SameBut k (members c.index_mut.result.now) (members c.add.new.self)) c.of-level.ensures c.add.ensures.others) c.add-then-push_event.ensures.there c.add-then-push_event.ensures.others)

pub invariant_of-self-else-push_event : goal.invariant_of-self-else-push_event
invariant_of-self-else-push_event c =
    let some = some_before c.self.inside.lists c.self.inside.queues.items c.args.self.now c.from-queue.result c.self.invariant.parkings c.self.view_is (subst (λ q. q < length c.args.self.now) (sym (c.from-queue.ensures ∙ c.queue.ensures)) c.requires.there) c.index_mut-entered.result.now c.index_mut-entered.ensures.value c.args.event.now c.of-level.result c.of-level.ensures (sym c.push_event.ensures.only ∙ c.if-push_event.false) in
    queues_come c.self.inside.lists c.self.inside.queues.items c.args.self.now c.from-queue.result c.self.invariant.parkings c.self.view_is (subst (λ q. q < length c.args.self.now) (sym (c.from-queue.ensures ∙ c.queue.ensures)) c.requires.there) c.index_mut-entered.result.now c.index_mut-entered.ensures.value c.args.event.now c.of-level.result c.of-level.ensures (subst (λ q. all_waiting c.args.self.now < (waits_at c.args.self.now q).room) (sym (c.from-queue.ensures ∙ c.queue.ensures)) c.requires.room) (subst (λ q. (waits_at c.args.self.now q).next < 2 ^ 63) (sym (c.from-queue.ensures ∙ c.queue.ensures)) c.requires.numbers) c.push_event.new.self c.push_event.ensures.value c.self.inside.levels.items c.self.inside.busy (noted_more _ c.args.self.now c.self.inside.levels.items c.self.inside.busy c.from-queue.result c.self.invariant.noted c.self.view_is (subst (λ q. q < length c.args.self.now) (sym (c.from-queue.ensures ∙ c.queue.ensures)) c.requires.there) c.args.event.now (sym (c.from-queue.ensures ∙ c.queue.ensures)) some)

pub returns-then-push_event-clause-value : goal.returns-then-push_event-clause-value
returns-then-push_event-clause-value c = waits_come c.self.inside.lists c.self.inside.queues.items c.args.self.now c.from-queue.result c.self.invariant.parkings c.self.view_is (subst (λ q. q < length c.args.self.now) (sym (c.from-queue.ensures ∙ c.queue.ensures)) c.requires.there) c.index_mut-entered.result.now c.index_mut-entered.ensures.value c.args.event.now c.of-level.result c.of-level.ensures (subst (λ q. all_waiting c.args.self.now < (waits_at c.args.self.now q).room) (sym (c.from-queue.ensures ∙ c.queue.ensures)) c.requires.room) (subst (λ q. (waits_at c.args.self.now q).next < 2 ^ 63) (sym (c.from-queue.ensures ∙ c.queue.ensures)) c.requires.numbers) c.push_event.new.self c.push_event.ensures.value
    ∙ ap (λ q. set c.args.self.now q (with_event (waits_at c.args.self.now q) c.args.event.now)) (c.from-queue.ensures ∙ c.queue.ensures)

pub returns-else-push_event-clause-value : goal.returns-else-push_event-clause-value
returns-else-push_event-clause-value c = waits_come c.self.inside.lists c.self.inside.queues.items c.args.self.now c.from-queue.result c.self.invariant.parkings c.self.view_is (subst (λ q. q < length c.args.self.now) (sym (c.from-queue.ensures ∙ c.queue.ensures)) c.requires.there) c.index_mut-entered.result.now c.index_mut-entered.ensures.value c.args.event.now c.of-level.result c.of-level.ensures (subst (λ q. all_waiting c.args.self.now < (waits_at c.args.self.now q).room) (sym (c.from-queue.ensures ∙ c.queue.ensures)) c.requires.room) (subst (λ q. (waits_at c.args.self.now q).next < 2 ^ 63) (sym (c.from-queue.ensures ∙ c.queue.ensures)) c.requires.numbers) c.push_event.new.self c.push_event.ensures.value
    ∙ ap (λ q. set c.args.self.now q (with_event (waits_at c.args.self.now q) c.args.event.now)) (c.from-queue.ensures ∙ c.queue.ensures)

pub returns-then-push_event-clause-waits : goal.returns-then-push_event-clause-waits
returns-then-push_event-clause-waits c = subst (λ q. AreWaits (with_event (waits_at c.args.self.now q) c.args.event.now)) (c.from-queue.ensures ∙ c.queue.ensures)
    (sound_come c.self.inside.lists c.self.inside.queues.items c.args.self.now c.from-queue.result c.self.invariant.parkings c.self.view_is (subst (λ q. q < length c.args.self.now) (sym (c.from-queue.ensures ∙ c.queue.ensures)) c.requires.there) c.index_mut-entered.result.now c.index_mut-entered.ensures.value c.args.event.now c.of-level.result c.of-level.ensures (subst (λ q. all_waiting c.args.self.now < (waits_at c.args.self.now q).room) (sym (c.from-queue.ensures ∙ c.queue.ensures)) c.requires.room) (subst (λ q. (waits_at c.args.self.now q).next < 2 ^ 63) (sym (c.from-queue.ensures ∙ c.queue.ensures)) c.requires.numbers) c.push_event.new.self c.push_event.ensures.value)

pub returns-else-push_event-clause-waits : goal.returns-else-push_event-clause-waits
returns-else-push_event-clause-waits c = subst (λ q. AreWaits (with_event (waits_at c.args.self.now q) c.args.event.now)) (c.from-queue.ensures ∙ c.queue.ensures)
    (sound_come c.self.inside.lists c.self.inside.queues.items c.args.self.now c.from-queue.result c.self.invariant.parkings c.self.view_is (subst (λ q. q < length c.args.self.now) (sym (c.from-queue.ensures ∙ c.queue.ensures)) c.requires.there) c.index_mut-entered.result.now c.index_mut-entered.ensures.value c.args.event.now c.of-level.result c.of-level.ensures (subst (λ q. all_waiting c.args.self.now < (waits_at c.args.self.now q).room) (sym (c.from-queue.ensures ∙ c.queue.ensures)) c.requires.room) (subst (λ q. (waits_at c.args.self.now q).next < 2 ^ 63) (sym (c.from-queue.ensures ∙ c.queue.ensures)) c.requires.numbers) c.push_event.new.self c.push_event.ensures.value)
