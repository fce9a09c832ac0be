use Rattle.std.proofs.Common.{◌≡◌, map, take}
use Rattle.play_documents.specs.Drafts.{queue_asked}
use Rattle.play_documents.proofs.drafts.queue_drafts.Given as goal

abbrev pub invariant-loop-row : goal.invariant-loop-row
invariant-loop-row l = l.drafts.items ≡ map queue_asked (take l.row-index l.rows)
