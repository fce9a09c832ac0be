use Rattle.std.proofs.Common.{◌≡◌, [], replicate}
use Rattle.pipeline_laws.specs.Past.{rows}
use Rattle.pipeline_laws.proofs.past.empty_lists.Given as goal

abbrev pub invariant-loop : goal.invariant-loop
invariant-loop g l = rows l.lists.items ≡ replicate l.counter []
