use Rattle.level_queues.proofs.Rings.{kept_without, level_taken}
use Rattle.level_queues.proofs.levels.Levels.remove_front.Goals as goal

pub invariant_of-self : goal.invariant_of-self
invariant_of-self c =
    kept_without c.self.inside.lists c.args.level c.index-self-level.result c.self.invariant c.requires c.pop_front.new.self 0 c.pop_front.ensures.items

pub returns-clause-level : goal.returns-clause-level
returns-clause-level c = level_taken c.self.inside.lists c.args.level c.index-self-level.result c.self.invariant c.requires 0 c.pop_front.result c.pop_front.ensures.value

pub returns-clause-levels : goal.returns-clause-levels
returns-clause-levels c = (invariant_of-self c).sound
