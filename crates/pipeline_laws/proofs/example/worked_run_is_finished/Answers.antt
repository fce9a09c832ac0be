use Rattle.std.proofs.Common.{refl}
use Rattle.pipeline_laws.proofs.Examples.{example_staged, example_worked, example_finished}
use Rattle.transcripts.specs.Transcript.{accepted}
use Rattle.pipeline_laws.proofs.example.worked_run_is_finished.Goals as goal

pub returns : goal.returns
unfolding accepted
returns c = record { staged = example_staged; worked = example_worked; finished = example_finished; first = refl; second = refl }
