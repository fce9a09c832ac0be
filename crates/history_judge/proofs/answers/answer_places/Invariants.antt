use Rattle.history_judge.specs.Answers.{ArePlaces}
use Rattle.history_judge.proofs.answers.answer_places.Given as goal

abbrev pub invariant-loop-at : goal.invariant-loop-at
invariant-loop-at l = ArePlaces l.ports l.history l.at l.places.items
