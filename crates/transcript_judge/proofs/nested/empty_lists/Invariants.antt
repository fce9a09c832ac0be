use Rattle.std.proofs.Common.{◌≡◌, [], replicate}
use Rattle.transcript_judge.specs.Ledger.{rows}
use Rattle.transcript_judge.proofs.nested.empty_lists.Given as goal

abbrev pub invariant-loop : goal.invariant-loop
invariant-loop g l = rows l.lists.items ≡ replicate l.counter []
