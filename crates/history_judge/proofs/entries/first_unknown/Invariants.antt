use Rattle.std.proofs.Common.{ℕ, ◌<◌}
use Rattle.history_judge.specs.Entries.{IsUnknown}
use Rattle.history_judge.proofs.entries.first_unknown.Given as goal

abbrev pub invariant-loop-at : goal.invariant-loop-at
invariant-loop-at l = (i : ℕ) → i < l.at → ¬ IsUnknown l.ports l.history i
