use Rattle.std.proofs.Common.{w64}
use Rattle.std.proofs.lemmas.Nat.Bits.{bit_at_set_same, bit_at_set_other}
use Rattle.small_set.proofs.Words.{same_bits}
use Rattle.small_set.proofs.set.SmallSet.add.Goals as goal

pub returns-clause-there : goal.returns-clause-there
returns-clause-there c = bit_at_set_same w64 c.args.self.now.bits c.args.member c.requires

pub returns-clause-others : goal.returns-clause-others
returns-clause-others c i apart = same_bits _ _ (bit_at_set_other w64 c.args.self.now.bits c.args.member c.requires i apart)
