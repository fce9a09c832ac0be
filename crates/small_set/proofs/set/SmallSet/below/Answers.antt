use Rattle.std.proofs.Common.{◌≡◌, ◌-◌, ◌<◌, subst, sym, arith}
use Rattle.std.specs.Prelude.{◌↔◌}
use Rattle.std.specs.Int.{bit_at}
use Rattle.std.proofs.lemmas.Nat.{one_shl}
use Rattle.small_set.proofs.Words.{in_ones}
use Rattle.small_set.proofs.set.SmallSet.below.Goals as goal

pub returns-then-count-eq-MAX_MEMBERS : goal.returns-then-count-eq-MAX_MEMBERS
returns-then-count-eq-MAX_MEMBERS c i = subst (λ n. (bit_at 18446744073709551615 i ≡ 1) ↔ (i < n)) (sym c.if-count-eq-MAX_MEMBERS.true) (in_ones 64 i)

pub returns : goal.returns
returns c i = subst (λ n. (bit_at (n - 1) i ≡ 1) ↔ (i < c.args.count)) (sym (one_shl c.args.count 64 (omega (arith, c.requires, c.if-count-eq-MAX_MEMBERS.false)))) (in_ones c.args.count i)
