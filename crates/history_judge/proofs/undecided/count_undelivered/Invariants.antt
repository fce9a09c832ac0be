use Rattle.history_judge.specs.Undecided.{AreOpen}
use Rattle.history_judge.proofs.undecided.count_undelivered.Given as goal

abbrev pub invariant-loop-seen : goal.invariant-loop-seen
invariant-loop-seen l = AreOpen l.history l.seen-index l.before l.undelivered
