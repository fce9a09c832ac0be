use Rattle.transcripts.proofs.Whole.{Lawful-steps}
use Rattle.transcripts.proofs.laws.lawful_by_steps.Goals as goal

pub returns : goal.returns
returns c = Lawful-steps
