use Rattle.transcripts.proofs.Whole.{steps-Lawful}
use Rattle.transcripts.proofs.laws.steps_of_lawful.Goals as goal

pub returns : goal.returns
returns c = steps-Lawful
