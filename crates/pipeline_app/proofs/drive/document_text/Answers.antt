use Rattle.std.proofs.Common.{Some}
use Rattle.pipeline_app.proofs.drive.document_text.Goals as goal

pub returns-clause-fault : goal.returns-clause-fault
returns-clause-fault c = c.run_text.ensures.fault (Some c.args.bytes.now)
