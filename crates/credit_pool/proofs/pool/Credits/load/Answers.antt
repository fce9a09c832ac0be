-- The load keeps the rule.
use Rattle.std.proofs.Common.{rules}
use Rattle.credit_pool.proofs.Keeps.{loads}
use Rattle.credit_pool.proofs.pool.Credits.load.Goals as goal

pub load-requires : goal.load-requires
load-requires c = (search rules, search rules, loads _ _ _ _ (search rules) (search rules))
