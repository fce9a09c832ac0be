use Rattle.transcript_judge.proofs.Fronts.{front_lawful, front_take}
use Rattle.transcript_judge.proofs.laws.fronts_are_closed.Goals as goal

pub returns-clause-lawful : goal.returns-clause-lawful
returns-clause-lawful c = front_lawful

pub returns-clause-shorter : goal.returns-clause-shorter
returns-clause-shorter c = front_take
