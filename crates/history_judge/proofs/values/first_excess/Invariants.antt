use Rattle.std.proofs.Common.{ℕ, ◌<◌}
use Rattle.history_judge.specs.Left.{AreLeft}
use Rattle.history_judge.specs.Values.{IsExcess}
use Rattle.history_judge.proofs.values.first_excess.Given as goal

abbrev pub invariant-loop-at : goal.invariant-loop-at
invariant-loop-at l = AreLeft l.history l.at l.left × ((i : ℕ) → i < l.at → ¬ IsExcess l.history i)
