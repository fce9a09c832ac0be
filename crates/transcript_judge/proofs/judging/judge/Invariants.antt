use Rattle.std.proofs.Common.{take}
use Rattle.transcript_judge.specs.Reading.{IsRead}
use Rattle.transcript_judge.proofs.judging.judge.Given as goal

abbrev pub invariant-loop-at : goal.invariant-loop-at
invariant-loop-at l = IsRead l.shape (take l.at l.steps) l.reading
