use Rattle.std.proofs.Common.{refl, sym, subst}
use Rattle.parked_queue.specs.Parkings.{IsChanged, IsParted, waits_by}
use Rattle.parked_queue.specs.Waits.{IsOnlyOf, without_number}
use Rattle.parked_queue.proofs.Calls.{headless}
use Rattle.parked_queue.proofs.parking.Parking.remove.Goals as goal

pub overflow_sub-self : goal.overflow_sub-self
overflow_sub-self c = (headless c.args.lists.now c.args.self.now c.requires.parted c.pop_number.new.self c.args.level.number c.args.slot c.args.number c.args.level.few c.requires.slot c.requires.only (sym c.if-pop_number.ensures.value) (c.if-pop_number.ensures.taken refl)).0

pub returns-then-pop_number : goal.returns-then-pop_number
returns-then-pop_number c = (headless c.args.lists.now c.args.self.now c.requires.parted c.pop_number.new.self c.args.level.number c.args.slot c.args.number c.args.level.few c.requires.slot c.requires.only (sym c.if-pop_number.ensures.value) (c.if-pop_number.ensures.taken refl)).1

pub remove_other-requires-clause-parted : goal.remove_other-requires-clause-parted
remove_other-requires-clause-parted c = subst (λ m. IsParted m c.args.self.now) (sym (c.if-pop_number.ensures.kept refl)) c.requires.parted

pub remove_other-requires-clause-only : goal.remove_other-requires-clause-only
remove_other-requires-clause-only c = subst (λ m. IsOnlyOf (waits_by m c.args.self.now) c.args.level.number c.args.slot c.args.number) (sym (c.if-pop_number.ensures.kept refl)) c.requires.only

pub returns-else-pop_number : goal.returns-else-pop_number
returns-else-pop_number c =
    subst (λ m. IsChanged m c.args.self.now c.remove_other.new.lists c.remove_other.new.self (without_number (waits_by m c.args.self.now) c.args.number)) (c.if-pop_number.ensures.kept refl) c.remove_other.ensures
