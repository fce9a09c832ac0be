use Rattle.history_judge.specs.Depths.{AreCounted}
use Rattle.history_judge.proofs.depths.first_overfull.Given as goal

abbrev pub invariant-loop-at : goal.invariant-loop-at
invariant-loop-at l = AreCounted l.shape l.history l.at l.got.items
