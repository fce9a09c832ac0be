use Rattle.history_judge.specs.Watching.{IsAt}
use Rattle.history_judge.proofs.watch.first_together.Given as goal

abbrev pub invariant-loop-at : goal.invariant-loop-at
invariant-loop-at l = IsAt l.shape l.history l.at l.watch
