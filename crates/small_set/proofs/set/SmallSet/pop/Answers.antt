use Rattle.std.proofs.Common.{arith}
use Rattle.small_set.proofs.Words.{same_bits, lowest_gone, lowest_others}
use Rattle.small_set.proofs.set.SmallSet.pop.Goals as goal

pub returns-clause-gone : goal.returns-clause-gone
returns-clause-gone c there =
    let low = c.in_ok-member.ensures.first in
    let zero = lowest_gone c.args.self.now.bits c.in_ok-member.member low.there low.first in omega arith

pub returns-clause-others : goal.returns-clause-others
returns-clause-others c i apart =
    let low = c.in_ok-member.ensures.first in
    same_bits _ _ (lowest_others c.args.self.now.bits c.in_ok-member.member low.there low.first i apart)
