use Rattle.small_set.proofs.Words.{in_either}
use Rattle.small_set.proofs.set.SmallSet.either.Goals as goal

pub returns : goal.returns
returns c i = in_either c.args.self.bits c.args.other.bits i
