use Rattle.std.proofs.Common.{arith, rules, w64}
use Rattle.std.proofs.lemmas.Nat.{and_le_l}
use Rattle.std.proofs.lemmas.Nat.Bits.{bit_at_clear_same}
use Rattle.small_set.proofs.Words.{same_bits, cleared_others}
use Rattle.small_set.proofs.set.SmallSet.remove.Goals as goal

pub returns-clause-gone : goal.returns-clause-gone
returns-clause-gone c there = let zero = bit_at_clear_same w64 c.args.self.now.bits c.args.member c.requires in omega arith

pub returns-clause-others : goal.returns-clause-others
returns-clause-others c i apart = same_bits _ _ (cleared_others c.args.self.now.bits c.args.member c.requires (search rules) i apart)

pub returns-clause-lighter : goal.returns-clause-lighter
returns-clause-lighter c = and_le_l c.args.self.now.bits _
