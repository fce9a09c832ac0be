use Rattle.std.proofs.Common.{List, map, take_all, ap, ◌∙◌}
use Rattle.evt_types.specs.declared.draft.QueueDraft.{QueueDraft}
use Rattle.play_documents.specs.Drafts.{queue_asked}
use Rattle.play_documents.proofs.Items.{mapped-more}
use Rattle.play_documents.proofs.drafts.queue_drafts.Goals as goal

pub loop-row-preserved : goal.loop-row-preserved
loop-row-preserved c =
    ◌∙◌ {A = List QueueDraft} c.in_ok-push.ensures.items
    (mapped-more queue_asked c.args.rows.now c.loop-row.row-index _ c.loop-row.drafts.items _ c.loop-row-test.true c.loop-row.invariant c.queue_draft.ensures)

pub returns : goal.returns
returns c = c.loop-row.invariant ∙ ap (map queue_asked) (take_all c.loop-row.row-index c.args.rows.now c.loop-row-test.false)
