-- A join keeps the rule.
use Rattle.std.proofs.Common.{rules}
use Rattle.credit_pool.proofs.Keeps.{joins}
use Rattle.credit_pool.proofs.pool.Credits.take_in.Goals as goal

pub join_seat-requires : goal.join_seat-requires
join_seat-requires c = (search rules, search rules, search rules, search rules, joins _ _ _ _ _ (search rules))
