use Rattle.std.proofs.Common.{◌≡◌, drop}
use Rattle.transcript_judge.specs.Scans.{kept_in_due}
use Rattle.transcript_judge.proofs.scans.first_due.Given as goal

abbrev pub invariant-loop-kept : goal.invariant-loop-kept
invariant-loop-kept l = kept_in_due (drop l.kept-index l.due) l.queue l.number ≡ kept_in_due l.due l.queue l.number
