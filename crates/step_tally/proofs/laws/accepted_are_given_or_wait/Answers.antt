use Rattle.step_tally.proofs.Balance.{accepted_by_give}
use Rattle.step_tally.proofs.laws.accepted_are_given_or_wait.Goals as goal

pub returns : goal.returns
returns c = accepted_by_give
