use Rattle.std.proofs.Common.{rules}
use Rattle.pipeline_app.proofs.CheckFaults.{check_input}
use Rattle.pipeline_app.proofs.checking.check.Goals as goal

pub returns-in_err-bytes-clause-err : goal.returns-in_err-bytes-clause-err
returns-in_err-bytes-clause-err g c =
    let early = check_input c.args.workers _ _ c.in_err-bytes.ensures.err in
    search rules
