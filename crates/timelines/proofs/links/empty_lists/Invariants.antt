use Rattle.std.proofs.Common.{◌≡◌, [], replicate}
use Rattle.timelines.specs.Links.{rows}
use Rattle.timelines.proofs.links.empty_lists.Given as goal

abbrev pub invariant-loop : goal.invariant-loop
invariant-loop l = rows l.lists.items ≡ replicate l.counter []
