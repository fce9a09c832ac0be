use Rattle.history_judge.specs.Undecided.{AreGot}
use Rattle.history_judge.proofs.undecided.all_got.Given as goal

abbrev pub invariant-loop-seen : goal.invariant-loop-seen
invariant-loop-seen l = AreGot l.history l.seen-index l.got
