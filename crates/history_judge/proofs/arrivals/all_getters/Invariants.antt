use Rattle.history_judge.specs.Streams.{AreGetters}
use Rattle.history_judge.proofs.arrivals.all_getters.Given as goal

abbrev pub invariant-loop-at : goal.invariant-loop-at
invariant-loop-at l = AreGetters l.history l.at l.getters
