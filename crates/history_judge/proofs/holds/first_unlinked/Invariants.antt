use Rattle.std.proofs.Common.{ℕ, ◌<◌}
use Rattle.history_judge.specs.Breaches.{IsUnlinked}
use Rattle.history_judge.proofs.holds.first_unlinked.Given as goal

abbrev pub invariant-loop-at : goal.invariant-loop-at
invariant-loop-at l = (i : ℕ) → i < l.at → ¬ IsUnlinked l.shape l.history i
