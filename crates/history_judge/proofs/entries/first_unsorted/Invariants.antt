use Rattle.std.proofs.Common.{ℕ, ◌<◌}
use Rattle.history_judge.proofs.InOrder.{IsLatest}
use Rattle.history_judge.specs.Entries.{IsUnsorted}
use Rattle.history_judge.proofs.entries.first_unsorted.Given as goal

abbrev pub invariant-loop-at : goal.invariant-loop-at
invariant-loop-at l = IsLatest l.history l.at l.latest × ((i : ℕ) → i < l.at → ¬ IsUnsorted l.history i)
