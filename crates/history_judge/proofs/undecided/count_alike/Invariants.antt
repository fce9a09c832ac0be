use Rattle.history_judge.specs.Undecided.{AreAlike}
use Rattle.history_judge.proofs.undecided.count_alike.Given as goal

abbrev pub invariant-loop-seen : goal.invariant-loop-seen
invariant-loop-seen l = AreAlike l.history l.seen-index l.alike
