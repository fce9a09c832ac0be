use Rattle.pipeline_laws.proofs.Promised.{promised_worked}
use Rattle.pipeline_laws.proofs.laws.promised_log_is_worked.Goals as goal

pub returns : goal.returns
returns c = promised_worked
