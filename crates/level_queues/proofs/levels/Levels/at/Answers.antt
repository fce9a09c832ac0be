use Rattle.level_queues.proofs.Rings.{level_shown}
use Rattle.level_queues.proofs.levels.Levels.at.Goals as goal

pub returns-clause-level : goal.returns-clause-level
returns-clause-level c = level_shown c.self.inside.lists c.args.level c.index-self-level.result c.self.invariant c.requires c.args.place c.get.result c.get.ensures
