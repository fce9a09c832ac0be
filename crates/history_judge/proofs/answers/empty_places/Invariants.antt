use Rattle.std.proofs.Common.{[]}
use Rattle.history_judge.specs.Holds.{AreTimes}
use Rattle.history_judge.proofs.answers.empty_places.Given as goal

abbrev pub invariant-loop : goal.invariant-loop
invariant-loop l = AreTimes l.counter [] l.lists.items
