use Rattle.std.proofs.Common.{◌≡◌, map, take}
use Rattle.evt_types.specs.declared.draft.QueueDraft.{QueueDraft}
use Rattle.transcript_judge.specs.Waiting.{no_waits}
use Rattle.transcript_judge.proofs.waiting.none_waiting.Given as goal

abbrev pub invariant-loop-draft : goal.invariant-loop-draft
invariant-loop-draft l = l.waiting.items ≡ map (λ (d : QueueDraft). no_waits d.kind) (take l.draft-index l.queues)
