use Rattle.std.proofs.Common.{◌≡◌, map, take}
use Rattle.run_documents.specs.Drafts.{stage_asked}
use Rattle.run_documents.proofs.drafts.queue_drafts.Given as goal

abbrev pub invariant-loop-row : goal.invariant-loop-row
invariant-loop-row l = l.drafts.items ≡ map stage_asked (take l.row-index l.rows)
