use Rattle.run_documents.proofs.Entries.{entry_by-is}
use Rattle.run_documents.proofs.trace.entry_by.Goals as goal

pub returns : goal.returns
returns c =
    let flow = rw c.from.ensures at c.in_ok-flow.ensures.value in
    let priority = rw c.from-2.ensures at c.in_ok-priority.ensures.value in
    entry_by-is c.in_ok-flow.field-0 c.in_ok-priority.field-0 c.in_ok-payload.payload _ c.args.flow.now c.args.priority.now c.args.payload.now flow priority c.in_ok-payload.ensures.value
