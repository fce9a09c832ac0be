use Rattle.play_documents.proofs.Tables.{parsed-Ok, parsed-Err}
use Rattle.play_documents.proofs.document.parsed.Goals as goal

pub returns-in-Ok : goal.returns-in-Ok
returns-in-Ok c = parsed-Ok c.args.bytes.now _ c.in-Ok.ensures.ok.0 c.in-Ok.ensures.ok.1

pub returns-else-is_memory : goal.returns-else-is_memory
returns-else-is_memory c = parsed-Err c.args.bytes.now (c.in-Err.ensures.refused (λ kind. absurd (cc (c.is_memory.ensures.1 kind))))
