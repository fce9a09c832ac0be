use Rattle.std.proofs.Common.{rules}
use Rattle.small_set.proofs.Words.{lowest}
use Rattle.small_set.proofs.set.SmallSet.first.Goals as goal

pub returns-clause-first : goal.returns-clause-first
returns-clause-first c =
    let low = lowest c.args.self.bits c.if-self-eq0.false (search rules) in
    record { within = low.0; there = low.1; first = low.2 }
