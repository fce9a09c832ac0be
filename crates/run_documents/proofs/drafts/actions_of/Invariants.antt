use Rattle.std.proofs.Common.{◌≡◌, map, take}
use Rattle.run_documents.specs.Judge.{action_asked}
use Rattle.run_documents.proofs.drafts.actions_of.Given as goal

abbrev pub invariant-loop-row : goal.invariant-loop-row
invariant-loop-row l = l.actions.items ≡ map action_asked (take l.row-index l.row-items)
