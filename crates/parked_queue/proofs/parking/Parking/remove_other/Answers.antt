use Rattle.std.proofs.Common.{◌-◌, ◌∙◌, ap, arith, refl}
use Rattle.std.specs.Option.{is_some, option_copied}
use Rattle.parked_queue.specs.Heads.{number_of}
use Rattle.parked_queue.proofs.Calls.{changed_last, number_list, rises, taken_read, unmarked}
use Rattle.parked_queue.proofs.Firsts.{none_is}
use Rattle.parked_queue.proofs.parking.Parking.remove_other.Goals as goal

pub take_number-taken-requires-clause-rising : goal.take_number-taken-requires-clause-rising
take_number-taken-requires-clause-rising c = rises c.args.lists.now c.args.self.now c.requires.parted c.list_for.result (number_list c.args.lists.now c.args.self.now c.requires.parted c.args.level.number c.args.slot c.args.number c.list_for.result c.args.level.few c.requires.slot c.list_for.ensures)

pub overflow_sub-self : goal.overflow_sub-self
overflow_sub-self c =
    (taken_read c.args.lists.now c.args.self.now c.requires.parted c.take_number-taken.new.self c.args.level.number c.args.slot c.args.number c.list_for.result 1 0 c.parked_list.result c.head_number.result c.index-self-level.result c.set.new.self c.parked_list.ensures
    c.set.ensures (c.head_number.ensures ∙ ap number_of c.head-head.ensures) c.args.level.few c.requires.slot c.requires.only c.list_for.ensures c.take_number-taken.ensures.value (c.if-taken.ensures.fewer refl)).0

pub returns-then-is_none : goal.returns-then-is_none
returns-then-is_none c =
    let both =
    taken_read c.args.lists.now c.args.self.now c.requires.parted c.take_number-taken.new.self c.args.level.number c.args.slot c.args.number c.list_for.result 1 (c.args.self.now.count - 1) c.parked_list.result c.head_number.result c.index-self-level.result c.set.new.self c.parked_list.ensures
    c.set.ensures (c.head_number.ensures ∙ ap number_of c.head-head.ensures) c.args.level.few c.requires.slot c.requires.only c.list_for.ensures c.take_number-taken.ensures.value (c.if-taken.ensures.fewer refl) in
    let changed = both.1 (omega (arith, both.0)) in
    changed_last c.args.lists.now c.take_number-taken.new.self c.args.self.now _ _ _ changed
    (unmarked c.take_number-taken.new.self _ changed.part c.args.level.number c.args.slot c.parked_list.result c.remove.new.self (option_copied c.head-head.result) c.args.level.few c.requires.slot c.parked_list.ensures c.head-head.ensures
    (ap (λ o. is_some (option_copied o)) (none_is c.head-head.result c.if-is_none.ensures)) c.remove.ensures.others c.remove.ensures.gone)

pub returns-else-is_none : goal.returns-else-is_none
returns-else-is_none c =
    let both =
    taken_read c.args.lists.now c.args.self.now c.requires.parted c.take_number-taken.new.self c.args.level.number c.args.slot c.args.number c.list_for.result 1 (c.args.self.now.count - 1) c.parked_list.result c.head_number.result c.index-self-level.result c.set.new.self c.parked_list.ensures
    c.set.ensures (c.head_number.ensures ∙ ap number_of c.head-head.ensures) c.args.level.few c.requires.slot c.requires.only c.list_for.ensures c.take_number-taken.ensures.value (c.if-taken.ensures.fewer refl) in
    both.1 (omega (arith, both.0))

pub returns-else-taken : goal.returns-else-taken
returns-else-taken c =
    let same = c.if-taken.ensures.kept refl in
    let both =
    taken_read c.args.lists.now c.args.self.now c.requires.parted c.take_number-taken.new.self c.args.level.number c.args.slot c.args.number c.list_for.result 0 c.args.self.now.count c.parked_list.result c.head_number.result c.index-self-level.result c.set.new.self c.parked_list.ensures
    c.set.ensures (c.head_number.ensures ∙ ap number_of c.head-head.ensures) c.args.level.few c.requires.slot c.requires.only c.list_for.ensures c.take_number-taken.ensures.value (omega (arith, same)) in
    both.1 (omega arith)
