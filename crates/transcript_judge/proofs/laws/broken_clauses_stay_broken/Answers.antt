use Rattle.transcript_judge.proofs.Verdicts.{broken_ends}
use Rattle.transcript_judge.proofs.laws.broken_clauses_stay_broken.Goals as goal

pub returns : goal.returns
returns c p T clause = broken_ends clause p T
