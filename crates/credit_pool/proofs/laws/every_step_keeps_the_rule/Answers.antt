use Rattle.credit_pool.proofs.Pools.{first_balanced}
use Rattle.credit_pool.proofs.Keeps.{step_keeps, split_keeps, join_keeps}
use Rattle.credit_pool.proofs.laws.every_step_keeps_the_rule.Goals as goal

pub returns-clause-made : goal.returns-clause-made
returns-clause-made c = first_balanced

pub returns-clause-step : goal.returns-clause-step
returns-clause-step c = step_keeps

pub returns-clause-split : goal.returns-clause-split
returns-clause-split c = split_keeps

pub returns-clause-join : goal.returns-clause-join
returns-clause-join c = join_keeps
