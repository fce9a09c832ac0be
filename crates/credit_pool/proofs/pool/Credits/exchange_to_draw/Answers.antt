-- The exchange of a draw keeps the rule.
use Rattle.std.proofs.Common.{rules}
use Rattle.credit_pool.proofs.Keeps.{draw_exchanges}
use Rattle.credit_pool.proofs.pool.Credits.exchange_to_draw.Goals as goal

pub compare_exchange-requires : goal.compare_exchange-requires
compare_exchange-requires c = (search rules, search rules, draw_exchanges _ _ _ _ _ _ (search rules) (search rules) (search rules) (search rules))
