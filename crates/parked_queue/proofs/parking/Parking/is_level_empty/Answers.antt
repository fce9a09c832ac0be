use Rattle.std.proofs.Common.{◌∙◌, ap, sym}
use Rattle.std.specs.Prelude.{not}
use Rattle.std.specs.Option.{option_copied}
use Rattle.parked_queue.specs.Marks.{marks_at}
use Rattle.parked_queue.specs.Parkings.{parted_by}
use Rattle.parked_queue.proofs.Calls.{marks_are}
use Rattle.parked_queue.proofs.Firsts.{none_is, none_of_level}
use Rattle.parked_queue.proofs.parking.Parking.is_level_empty.Goals as goal

pub returns-then-is_none : goal.returns-then-is_none
returns-then-is_none c e =
    none_of_level (parted_by c.args.lists.now c.args.self.now) c.args.level.number (marks_at c.args.self.now.parked c.args.level.number) (marks_are c.args.lists.now c.args.self.now c.requires c.args.level.number) (c.is_empty.ensures.0 e)
    (sym c.front.ensures ∙ ap option_copied (none_is c.front.result (c.is_none.ensures ∙ ap not c.if-is_none.true)))
