use Rattle.std.proofs.Common.{None, Some, refl}
use Rattle.parked_queue.specs.Parkings.{parted_by}
use Rattle.parked_queue.specs.Parted.{HasNoneParked}
use Rattle.parked_queue.proofs.Calls.{first_aside_of, none_aside_of, slot_aside_of, some_aside_of}
use Rattle.parked_queue.proofs.Options.{if_none}
use Rattle.parked_queue.proofs.parking.Parking.first_parked.Goals as goal

pub returns-in_err-slot-clause-none : goal.returns-in_err-slot-clause-none
returns-in_err-slot-clause-none c =
    if_none c.from_residual.result (HasNoneParked (parted_by c.args.lists.now c.args.self.now) c.args.level.number c.args.marked)
    (none_aside_of c.args.lists.now c.args.self.now c.requires.parted c.args.level.number c.index-self-level.result c.args.marked c.args.level.few c.in_err-slot.ensures.none)

pub returns-in_err-waiting-clause-none : goal.returns-in_err-waiting-clause-none
returns-in_err-waiting-clause-none c =
    absurd
    (some_aside_of c.args.lists.now c.args.self.now c.requires.parted c.args.level.number c.index-self-level.result c.args.marked c.args.level.few c.in_ok-slot.slot c.parked_list.result None (c.requires.there c.in_ok-slot.slot c.in_ok-slot.ensures.first.there)
    c.in_ok-slot.ensures.first c.parked_list.ensures c.in_err-waiting.ensures refl)

pub returns-clause-first : goal.returns-clause-first
returns-clause-first c =
    first_aside_of c.args.lists.now c.args.self.now c.requires.parted c.args.level.number c.index-self-level.result c.args.marked c.args.level.few c.in_ok-slot.slot c.parked_list.result (Some c.in_ok-waiting.waiting.now) (c.requires.there c.in_ok-slot.slot c.in_ok-slot.ensures.first.there)
    c.in_ok-slot.ensures.first c.parked_list.ensures c.in_ok-waiting.ensures c.in_ok-waiting.waiting.now refl

pub returns-clause-slot : goal.returns-clause-slot
returns-clause-slot c =
    slot_aside_of c.args.lists.now c.args.self.now c.requires.parted c.args.level.number c.index-self-level.result c.args.marked c.args.level.few c.in_ok-slot.slot c.parked_list.result (Some c.in_ok-waiting.waiting.now) (c.requires.there c.in_ok-slot.slot c.in_ok-slot.ensures.first.there)
    c.in_ok-slot.ensures.first c.parked_list.ensures c.in_ok-waiting.ensures c.in_ok-waiting.waiting.now refl
