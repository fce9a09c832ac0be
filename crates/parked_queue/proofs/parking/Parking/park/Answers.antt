use Rattle.std.proofs.Common.{◌≡◌, ◌∙◌, Some, ap, arith, refl, sym}
use Rattle.evt_types.specs.declared.event.Numbered.{Numbered}
use Rattle.parked_queue.specs.Heads.{number_of}
use Rattle.parked_queue.specs.Parkings.{parted_by}
use Rattle.parked_queue.specs.Parted.{own_first}
use Rattle.parked_queue.specs.Waits.{slot_of}
use Rattle.parked_queue.proofs.Calls.{aside, first_is, level_list, noted_row, number_head, parted_aside}
use Rattle.parked_queue.proofs.Options.{if_some, not_there, of_some}
use Rattle.parked_queue.proofs.parking.Parking.park.Goals as goal

pub overflow_add-self-in-Some : goal.overflow_add-self-in-Some
overflow_add-self-in-Some c =
    let first = sym (first_is c.args.lists.now c.args.self.now c.requires.parted c.args.level.number c.args.level.number (level_list c.args.lists.now c.args.self.now c.requires.parted c.args.level.number c.args.level.few) refl (Some c.in-Some.head) (sym c.in-Some.is ∙ c.pop.ensures.value)) in
    let slot = of_some (own_first (parted_by c.args.lists.now c.args.self.now) c.args.level.number) c.in-Some.head (λ (w : Numbered). c.args.slot ≡ slot_of c.args.self.now.slots w) first c.requires.slot in
    let fits = number_head c.args.lists.now c.args.self.now c.requires.parted c.args.level.number c.args.slot c.in-Some.head c.args.level.few first slot in
    omega arith

pub returns-in-Some-clause-changed : goal.returns-in-Some-clause-changed
returns-in-Some-clause-changed c =
    let first = sym (first_is c.args.lists.now c.args.self.now c.requires.parted c.args.level.number c.args.level.number (level_list c.args.lists.now c.args.self.now c.requires.parted c.args.level.number c.args.level.few) refl (Some c.in-Some.head) (sym c.in-Some.is ∙ c.pop.ensures.value)) in
    let slot = of_some (own_first (parted_by c.args.lists.now c.args.self.now) c.args.level.number) c.in-Some.head (λ (w : Numbered). c.args.slot ≡ slot_of c.args.self.now.slots w) first c.requires.slot in
    aside c.args.lists.now c.args.self.now c.requires.parted c.args.level.number c.args.slot c.in-Some.head c.args.level.few first slot c.pop.new.self c.pop.ensures.rest c.push.new.self c.parked_list.result c.add.new.self c.set.new.self c.parked_list.ensures c.push.ensures c.add.ensures.there c.add.ensures.others (noted_row c.args.lists.now c.args.self.now c.requires.parted c.args.level.number c.args.slot c.head_number.result _ c.index-self-level.result c.set.new.self c.args.level.few c.set.ensures (c.head_number.ensures ∙ ap number_of c.head.ensures))

pub returns-in-Some-clause-below : goal.returns-in-Some-clause-below
returns-in-Some-clause-below c =
    let first = sym (first_is c.args.lists.now c.args.self.now c.requires.parted c.args.level.number c.args.level.number (level_list c.args.lists.now c.args.self.now c.requires.parted c.args.level.number c.args.level.few) refl (Some c.in-Some.head) (sym c.in-Some.is ∙ c.pop.ensures.value)) in
    let slot = of_some (own_first (parted_by c.args.lists.now c.args.self.now) c.args.level.number) c.in-Some.head (λ (w : Numbered). c.args.slot ≡ slot_of c.args.self.now.slots w) first c.requires.slot in
    if_some (own_first (parted_by c.args.lists.now c.args.self.now) c.args.level.number) c.in-Some.head _ first (parted_aside c.args.lists.now c.args.self.now c.requires.parted c.args.level.number c.args.slot c.in-Some.head c.args.level.few first slot c.pop.new.self c.pop.ensures.rest c.push.new.self c.parked_list.result c.add.new.self c.set.new.self c.parked_list.ensures c.push.ensures c.add.ensures.there c.add.ensures.others (noted_row c.args.lists.now c.args.self.now c.requires.parted c.args.level.number c.args.slot c.head_number.result _ c.index-self-level.result c.set.new.self c.args.level.few c.set.ensures (c.head_number.ensures ∙ ap number_of c.head.ensures)))

pub returns-in_default-clause-changed : goal.returns-in_default-clause-changed
returns-in_default-clause-changed c = absurd (not_there (own_first (parted_by c.args.lists.now c.args.self.now) c.args.level.number) (sym (first_is c.args.lists.now c.args.self.now c.requires.parted c.args.level.number c.args.level.number (level_list c.args.lists.now c.args.self.now c.requires.parted c.args.level.number c.args.level.few) refl _ (sym c.in_default.is ∙ c.pop.ensures.value))) c.requires.first)

pub returns-in_default-clause-below : goal.returns-in_default-clause-below
returns-in_default-clause-below c = absurd (not_there (own_first (parted_by c.args.lists.now c.args.self.now) c.args.level.number) (sym (first_is c.args.lists.now c.args.self.now c.requires.parted c.args.level.number c.args.level.number (level_list c.args.lists.now c.args.self.now c.requires.parted c.args.level.number c.args.level.few) refl _ (sym c.in_default.is ∙ c.pop.ensures.value))) c.requires.first)
