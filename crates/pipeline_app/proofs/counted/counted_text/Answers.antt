use Rattle.std.proofs.Common.{rules}
use Rattle.command_line.proofs.Reading.{reads_fault, reads_whole}
use Rattle.pipeline_app.proofs.RunFaults.{early_input, early_read}
use Rattle.pipeline_app.proofs.counted.counted_text.Goals as goal

pub returns-in_err-bytes-clause-fault : goal.returns-in_err-bytes-clause-fault
returns-in_err-bytes-clause-fault g c =
    let early = early_input c.args.workers _ _ c.in_err-bytes.ensures.err in
    search rules

pub returns-in_err-bytes-clause-reads : goal.returns-in_err-bytes-clause-reads
returns-in_err-bytes-clause-reads g c = reads_fault c.in_err-bytes.was c.from_residual.ensures.1 c.read_explained.ensures.reads

pub returns-clause-fault : goal.returns-clause-fault
returns-clause-fault g c = early_read c.args.workers _ _ _ c.document_counted-result.result c.deref.ensures.value c.in_ok-bytes.ensures.all c.document_counted-result.ensures.fault

pub returns-clause-reads : goal.returns-clause-reads
returns-clause-reads g c = reads_whole c.in_ok-bytes.was c.read_explained.ensures.reads
