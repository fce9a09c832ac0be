use Rattle.small_set.proofs.Words.{in_both}
use Rattle.small_set.proofs.set.SmallSet.both.Goals as goal

pub returns : goal.returns
returns c i = in_both c.args.self.bits c.args.other.bits i
