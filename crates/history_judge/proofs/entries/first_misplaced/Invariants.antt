use Rattle.history_judge.specs.Entries.{AreLast}
use Rattle.history_judge.proofs.entries.first_misplaced.Given as goal

abbrev pub invariant-loop-at : goal.invariant-loop-at
invariant-loop-at l = AreLast l.ports l.history l.at l.last.items
