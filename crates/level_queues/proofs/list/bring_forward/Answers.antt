use Rattle.level_queues.proofs.Removed.{turned_rest}
use Rattle.level_queues.proofs.list.bring_forward.Goals as goal

pub returns-clause-rest : goal.returns-clause-rest
returns-clause-rest c = turned_rest c.args.events.now c.rotate_right.new.self c.args.place c.requires c.rotate_right.ensures.after
