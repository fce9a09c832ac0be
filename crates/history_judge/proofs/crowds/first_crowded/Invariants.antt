use Rattle.history_judge.specs.Crowds.{AreCountedUp}
use Rattle.history_judge.proofs.crowds.first_crowded.Given as goal

abbrev pub invariant-loop-at : goal.invariant-loop-at
invariant-loop-at l = AreCountedUp l.shape l.history l.at l.got.items l.begun.items
