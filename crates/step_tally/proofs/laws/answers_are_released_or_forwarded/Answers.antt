use Rattle.step_tally.proofs.Balance.{answers_by_outcome}
use Rattle.step_tally.proofs.laws.answers_are_released_or_forwarded.Goals as goal

pub returns : goal.returns
returns c = answers_by_outcome
