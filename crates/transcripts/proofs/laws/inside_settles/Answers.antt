use Rattle.transcripts.proofs.Account.{settled}
use Rattle.transcripts.proofs.Whole.{steps-Lawful}
use Rattle.transcripts.proofs.laws.inside_settles.Goals as goal

pub returns : goal.returns
returns c p T h = settled p T (steps-Lawful p T h).steps
