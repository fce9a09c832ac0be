use Rattle.credit_pool.proofs.Pools.{out_is_in_use}
use Rattle.credit_pool.proofs.laws.credits_add_up.Goals as goal

pub returns-clause-used : goal.returns-clause-used
returns-clause-used c = out_is_in_use
