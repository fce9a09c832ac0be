use Rattle.std.proofs.Common.{rules}
use Rattle.small_set.proofs.Words.{in_first_alone}
use Rattle.small_set.proofs.set.SmallSet.except.Goals as goal

pub returns : goal.returns
returns c i = in_first_alone c.args.self.bits c.args.other.bits i (search rules) (search rules)
