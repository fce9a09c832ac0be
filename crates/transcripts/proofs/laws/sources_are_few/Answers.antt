use Rattle.transcripts.proofs.Sources.{taken_few}
use Rattle.transcripts.proofs.laws.sources_are_few.Goals as goal

pub returns : goal.returns
returns c = taken_few
