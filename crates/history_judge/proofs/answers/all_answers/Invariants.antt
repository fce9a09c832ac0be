use Rattle.history_judge.specs.Answers.{AreFound}
use Rattle.history_judge.proofs.answers.all_answers.Given as goal

abbrev pub invariant-loop-seen : goal.invariant-loop-seen
invariant-loop-seen l = AreFound l.ports l.history l.seen-index l.got.items l.answers.items
