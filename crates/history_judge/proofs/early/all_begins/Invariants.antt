use Rattle.std.proofs.Common.{take}
use Rattle.history_judge.specs.Begins.{AreBegun}
use Rattle.history_judge.proofs.early.all_begins.Given as goal

abbrev pub invariant-loop-seen : goal.invariant-loop-seen
invariant-loop-seen l = AreBegun (take l.seen-index l.history) l.begins
