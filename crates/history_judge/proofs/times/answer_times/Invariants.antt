use Rattle.std.proofs.Common.{take}
use Rattle.history_judge.specs.Holds.{AreTimes}
use Rattle.history_judge.proofs.times.answer_times.Given as goal

abbrev pub invariant-loop-seen : goal.invariant-loop-seen
invariant-loop-seen l = AreTimes l.ports (take l.seen-index l.history) l.times.items
