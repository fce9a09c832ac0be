use Rattle.std.proofs.Common.{false, map, refl, ap, ◌∙◌, length, replicate, []}
use Rattle.evt_types.specs.declared.draft.QueueDraft.{QueueDraft}
use Rattle.transcript_judge.proofs.Walks.{no_kinds, view_none}
use Rattle.transcript_judge.specs.Waiting.{kinds_in, no_waits}
use Rattle.transcript_judge.proofs.ledger.Ledger.new.Goals as goal

pub returns-clause-view : goal.returns-clause-view
returns-clause-view c =
    view_none c.args.shape.now
    (record { waiting = c.in_ok-none_waiting.field-0; places = c.in_ok-empty_lists.field-0; unanswered = c.in_ok-empty_lists-2.field-0; extras = c.in_ok-no_counts.field-0; shut = false })
    (c.in_ok-none_waiting.ensures ∙ ap (map (λ (d : QueueDraft). no_waits d.kind)) c.queues-2.ensures.value)
    (c.in_ok-empty_lists.ensures ∙ ap (λ qs. replicate (length qs) []) c.queues.ensures.value)
    (c.in_ok-empty_lists-2.ensures ∙ ap (λ k. replicate k []) c.lanes-lanes.ensures.value)
    (c.in_ok-no_counts.ensures ∙ ap (λ k. replicate k 0) c.lanes-lanes.ensures.value) refl

pub returns-clause-kinds : goal.returns-clause-kinds
returns-clause-kinds c =
    ap kinds_in (c.in_ok-none_waiting.ensures ∙ ap (map (λ (d : QueueDraft). no_waits d.kind)) c.queues-2.ensures.value) ∙ no_kinds c.args.shape.now.queues
