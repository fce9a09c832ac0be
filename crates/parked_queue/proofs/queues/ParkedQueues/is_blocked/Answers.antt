use Rattle.std.proofs.Common.{◌∙◌, ap, arith, refl, subst, sym}
use Rattle.std.proofs.lemmas.Bool.{false≢true}
use Rattle.std.specs.Prelude.{not}
use Rattle.std.specs.Option.{option_copied}
use Rattle.parked_queue.specs.Marks.{marks_at}
use Rattle.parked_queue.specs.Parkings.{parted_by}
use Rattle.parked_queue.specs.Waits.{HasNoneAllowed}
use Rattle.parked_queue.proofs.Calls.{first_is, level_list, marks_are}
use Rattle.parked_queue.proofs.Firsts.{none_is, none_left}
use Rattle.parked_queue.proofs.Parkings.{asked, level_fits, level_there}
use Rattle.parked_queue.proofs.Slots.{none_marked}
use Rattle.parked_queue.proofs.queues.ParkedQueues.is_blocked.Goals as goal
use Rattle.parked_queue.proofs.queues.ParkedQueues.is_blocked.Goals.{then-not-is_empty, else-not-is_empty}

pub overflow_add-asked : goal.overflow_add-asked
overflow_add-asked c = omega (arith, level_fits c.self.inside.lists c.self.inside.queues.items c.args.self.now c.args.queue c.self.invariant.parkings c.self.view_is c.requires c.index-asked.result.now c.index-asked.ensures c.args.level.number c.args.level.few)

pub head-requires : goal.head-requires
head-requires c = level_there c.self.inside.lists c.self.inside.queues.items c.args.self.now c.args.queue c.self.invariant.parkings c.self.view_is c.requires c.index-asked.result.now c.index-asked.ensures c.args.level.number c.args.level.few

pub returns-then-is_empty : goal.returns-then-is_empty
returns-then-is_empty c e =
    let a = asked c.self.inside.lists c.self.inside.queues.items c.args.self.now c.args.queue c.self.invariant.parkings c.self.view_is c.requires c.index-asked.result.now c.index-asked.ensures in
    let v = parted_by c.self.inside.lists c.index-asked.result.now in
    let marks = marks_at c.index-asked.result.now.parked c.args.level.number in
    elim c.if-not-is_empty.branch [
      | then-not-is_empty w ↦
          subst (λ u. HasNoneAllowed u c.args.level.number c.args.allowed) a.waits
          (none_left v c.args.level.number c.args.allowed a.part.parking.waits c.args.level.few
          (none_marked v c.args.level.number marks c.args.allowed w.both.result (marks_are c.self.inside.lists c.index-asked.result.now a.part c.args.level.number) w.both.ensures (w.is_empty-then-not-is_empty.ensures.0 (sym w.value-is ∙ c.if-is_empty.true)))
          (sym (first_is c.self.inside.lists c.index-asked.result.now a.part c.args.level.number c.args.level.number (level_list c.self.inside.lists c.index-asked.result.now a.part c.args.level.number c.args.level.few) refl (option_copied c.head.result) c.head.ensures) ∙ ap option_copied (none_is c.head.result (c.is_none.ensures ∙ ap not e))))
      | else-not-is_empty w ↦ absurd (false≢true (ap not (sym w.if-not-is_empty.false) ∙ (sym w.value-is ∙ c.if-is_empty.true)))
    ]

pub returns-else-is_empty : goal.returns-else-is_empty
returns-else-is_empty c e = absurd (false≢true (sym c.if-is_empty.false ∙ e))

pub bounds-asked-level : goal.bounds-asked-level
bounds-asked-level c = c.args.level.few
