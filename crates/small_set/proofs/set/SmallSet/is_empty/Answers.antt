use Rattle.std.proofs.Common.{ap, arith, eq-eqb, eqb-true}
use Rattle.std.specs.Int.{bit_at}
use Rattle.std.proofs.lemmas.Nat.Bits.{bit_at-zero}
use Rattle.small_set.proofs.Words.{no_ones}
use Rattle.small_set.proofs.set.SmallSet.is_empty.Goals as goal

pub returns : goal.returns
returns c = (
  λ zero k there. let e = ap (λ n. bit_at n k) (eqb-true _ _ zero) in let none = bit_at-zero k in omega arith,
  λ empty. eq-eqb _ 0 (no_ones c.args.self.bits empty),
)
