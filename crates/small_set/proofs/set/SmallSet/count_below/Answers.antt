use Rattle.std.proofs.Common.{◌-◌, ap, ◌∙◌, count_ones, bit_and}
use Rattle.std.proofs.lemmas.Nat.{and_mask, one_shl}
use Rattle.small_set.specs.SmallSets.{members_below}
use Rattle.small_set.proofs.Counts.{ones_below}
use Rattle.small_set.proofs.set.SmallSet.count_below.Goals as goal

pub returns : goal.returns
unfolding members_below
returns c =
    let n = c.args.self.bits in
    ap (λ m. count_ones (bit_and n (m - 1))) (one_shl c.args.end 64 c.requires) ∙ (ap count_ones (and_mask n c.args.end) ∙ ones_below n c.args.end)
