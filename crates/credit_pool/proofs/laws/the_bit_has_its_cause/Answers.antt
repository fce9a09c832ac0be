use Rattle.credit_pool.proofs.Pools.{setter, seen_is}
use Rattle.credit_pool.proofs.laws.the_bit_has_its_cause.Goals as goal

pub returns-clause-set : goal.returns-clause-set
returns-clause-set c = setter

pub returns-clause-seen : goal.returns-clause-seen
returns-clause-seen c = seen_is
