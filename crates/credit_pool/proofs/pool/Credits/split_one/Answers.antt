-- A split keeps the rule.
use Rattle.std.proofs.Common.{rules}
use Rattle.credit_pool.proofs.Keeps.{splits}
use Rattle.credit_pool.proofs.pool.Credits.split_one.Goals as goal

pub split_seat-other-requires : goal.split_seat-other-requires
split_seat-other-requires c = (search rules, search rules, splits _ _ _ (search rules))
