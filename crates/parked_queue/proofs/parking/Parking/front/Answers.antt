use Rattle.std.proofs.Common.{refl}
use Rattle.std.specs.Option.{option_copied}
use Rattle.parked_queue.proofs.Calls.{first_is, level_list}
use Rattle.parked_queue.proofs.parking.Parking.front.Goals as goal

pub returns : goal.returns
returns c = first_is c.args.lists.now c.args.self.now c.requires c.args.level.number c.args.level.number (level_list c.args.lists.now c.args.self.now c.requires c.args.level.number c.args.level.few) refl (option_copied c.head.result) c.head.ensures
