use Rattle.std.proofs.Common.{◌≡◌, drop}
use Rattle.std.specs.Prelude.{not}
use Rattle.std.specs.BTreeSet.{contains}
use Rattle.std.specs.List.{find}
use Rattle.std.specs.Ordering.{nat_cmp}
use Rattle.judge_app.proofs.orders.first_outside.Given as goal

abbrev pub invariant-loop-number : goal.invariant-loop-number
invariant-loop-number l = find (λ n. not (contains nat_cmp l.set n)) (drop l.number-index l.numbers) ≡ find (λ n. not (contains nat_cmp l.set n)) l.numbers
