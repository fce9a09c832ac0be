use Rattle.std.proofs.Common.{take}
use Rattle.history_judge.specs.Left.{AreAllSent}
use Rattle.history_judge.proofs.values.all_sent.Given as goal

abbrev pub invariant-loop-seen : goal.invariant-loop-seen
invariant-loop-seen l = AreAllSent (take l.seen-index l.history) l.left
