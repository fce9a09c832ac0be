use Rattle.std.proofs.Common.{◌≡◌, ℕ, take}
use Rattle.std.specs.BTreeSet.{contains}
use Rattle.std.specs.Ordering.{nat_cmp}
use Rattle.lists.specs.Lists.{has}
use Rattle.judge_app.proofs.sets.set_of.Given as goal

abbrev pub invariant-loop-number : goal.invariant-loop-number
invariant-loop-number l = (n : ℕ) → contains nat_cmp l.set n ≡ has n (take l.number-index l.numbers)
