use Rattle.credit_pool.proofs.Pools.{nothing_without_parts, all_drawn, all_set}
use Rattle.credit_pool.proofs.laws.parts_add_up.Goals as goal

pub returns-clause-none : goal.returns-clause-none
returns-clause-none c = nothing_without_parts

pub returns-clause-all : goal.returns-clause-all
returns-clause-all c = all_drawn

pub returns-clause-bit : goal.returns-clause-bit
returns-clause-bit c = all_set
