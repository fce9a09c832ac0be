use Rattle.std.proofs.Common.{◌≡◌, map, take}
use Rattle.evt_types.specs.Plan.{port_plan}
use Rattle.play_documents.specs.Drafts.{port_asked}
use Rattle.play_documents.specs.Survey.{port_seen}
use Rattle.play_documents.proofs.drafts.port_drafts.Given as goal

abbrev pub invariant-loop-row : goal.invariant-loop-row
invariant-loop-row l = map port_plan l.drafts.items ≡ map port_asked (map port_seen (take l.row-index l.rows))
