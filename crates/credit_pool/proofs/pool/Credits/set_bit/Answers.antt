-- The fetch_or keeps the rule.
use Rattle.std.proofs.Common.{rules}
use Rattle.credit_pool.proofs.Keeps.{fetches_or}
use Rattle.credit_pool.proofs.pool.Credits.set_bit.Goals as goal

pub fetch_or-requires : goal.fetch_or-requires
fetch_or-requires c = (search rules, search rules, fetches_or _ _ _ _ (search rules))
