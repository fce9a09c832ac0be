use Rattle.std.proofs.Common.{ℕ, ◌<◌}
use Rattle.history_judge.specs.Values.{IsPremature}
use Rattle.history_judge.proofs.early.first_premature.Given as goal

abbrev pub invariant-loop-at : goal.invariant-loop-at
invariant-loop-at l = (i : ℕ) → i < l.at → ¬ IsPremature l.history i
