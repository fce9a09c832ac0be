use Rattle.step_tally.proofs.Balance.{accepted_by_source}
use Rattle.step_tally.proofs.laws.accepted_are_new_or_forwarded.Goals as goal

pub returns : goal.returns
returns c = accepted_by_source
