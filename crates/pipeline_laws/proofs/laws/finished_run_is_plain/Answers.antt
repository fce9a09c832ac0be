use Rattle.pipeline_laws.proofs.Stages.{run_is_plain}
use Rattle.pipeline_laws.proofs.laws.finished_run_is_plain.Goals as goal

pub returns : goal.returns
returns c = run_is_plain
