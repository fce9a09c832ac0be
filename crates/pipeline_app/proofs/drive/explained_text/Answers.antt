use Rattle.std.proofs.Common.{rules, string_bytes}
use Rattle.command_line.proofs.Reading.{reads_fault, reads_whole}
use Rattle.pipeline_app.proofs.EarlyFaults.{IsEarlyFault-input}
use Rattle.pipeline_app.proofs.Writing.{run_read}
use Rattle.pipeline_app.specs.Play.{form_of}
use Rattle.pipeline_app.proofs.drive.explained_text.Goals as goal

pub returns-in_err-bytes-clause-fault : goal.returns-in_err-bytes-clause-fault
returns-in_err-bytes-clause-fault g c =
    let early = IsEarlyFault-input _ _ c.in_err-bytes.ensures.err in
    search rules

pub returns-in_err-bytes-clause-reads : goal.returns-in_err-bytes-clause-reads
returns-in_err-bytes-clause-reads g c = reads_fault c.in_err-bytes.was c.from_residual.ensures.1 c.read_explained.ensures.reads

pub returns-clause-run : goal.returns-clause-run
returns-clause-run g c = run_read (form_of c.args.form) (λ text. string_bytes text) _ _ _ c.document_text-result.result c.deref.ensures.value c.in_ok-bytes.ensures.all c.document_text-result.ensures.run

pub returns-clause-reads : goal.returns-clause-reads
returns-clause-reads g c = reads_whole c.in_ok-bytes.was c.read_explained.ensures.reads
