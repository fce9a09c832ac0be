use Rattle.std.proofs.Common.{◌∙◌, ap, refl, sym}
use Rattle.parked_queue.specs.Lists.{list_at, with_list}
use Rattle.parked_queue.proofs.Without.{first_out}
use Rattle.parked_queue.proofs.waiting.WaitingLists.take_number.Goals as goal

pub returns-then-pop_number-clause-value : goal.returns-then-pop_number-clause-value
returns-then-pop_number-clause-value c =
    c.if-pop_number.ensures.taken refl
    ∙ ap (with_list c.args.self.now c.args.list) (first_out c.args.number (list_at c.args.self.now c.args.list) c.requires.rising (sym c.if-pop_number.ensures.value))
