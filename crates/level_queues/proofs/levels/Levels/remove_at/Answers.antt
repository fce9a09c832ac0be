use Rattle.level_queues.proofs.Rings.{kept_without, level_taken, rest_without}
use Rattle.level_queues.proofs.levels.Levels.remove_at.Goals as goal

pub invariant_of-self : goal.invariant_of-self
invariant_of-self c =
    kept_without c.self.inside.lists c.args.level c.index-self-level.result c.self.invariant c.requires c.take_out.new.list c.args.place c.take_out.ensures.rest

pub returns-clause-level : goal.returns-clause-level
returns-clause-level c = level_taken c.self.inside.lists c.args.level c.index-self-level.result c.self.invariant c.requires c.args.place c.take_out.result c.take_out.ensures.value

pub returns-clause-rest : goal.returns-clause-rest
returns-clause-rest c =
    rest_without c.self.inside.lists c.args.level c.index-self-level.result c.self.invariant c.requires c.take_out.new.list c.args.place c.take_out.result c.args.self.now c.self.view_is c.take_out.ensures.value c.take_out.ensures.rest

pub returns-clause-levels : goal.returns-clause-levels
returns-clause-levels c = (invariant_of-self c).sound
