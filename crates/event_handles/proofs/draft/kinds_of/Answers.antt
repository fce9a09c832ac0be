use Rattle.std.proofs.Common.{false, set, get_or, ap, ◌∙◌, arith}
use Rattle.evt_types.specs.declared.draft.QueueDraft.{QueueDraft}
use Rattle.evt_types.specs.declared.event.Kind.TheVariants.{Ordered}
use Rattle.event_handles.proofs.KindLists.{all_written, one_written}
use Rattle.event_handles.proofs.draft.kinds_of.Goals as goal

pub loop-number-preserved : goal.loop-number-preserved
loop-number-preserved c =
    let default : QueueDraft = record { kind = Ordered; priority = 0; slots = 0; order = 0; single = false } in
    let queues = c.args.queues.now in
    let i = c.loop-number.number in
    ap (λ xs. set xs i (get_or queues i default).kind) c.loop-number.invariant ∙ one_written queues i default (omega arith) c.requires

pub returns : goal.returns
returns c = c.loop-number.invariant ∙ all_written c.args.queues.now c.loop-number.number (omega arith)
