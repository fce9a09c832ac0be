use Rattle.step_tally.proofs.Balance.{out_by_answer}
use Rattle.step_tally.proofs.laws.given_are_answered_or_unanswered.Goals as goal

pub returns : goal.returns
returns c = out_by_answer
