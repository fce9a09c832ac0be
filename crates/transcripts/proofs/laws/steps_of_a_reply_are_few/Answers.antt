use Rattle.transcripts.proofs.Fewness.{steps_fit, kept_fit}
use Rattle.transcripts.proofs.laws.steps_of_a_reply_are_few.Goals as goal

pub returns-clause-steps : goal.returns-clause-steps
returns-clause-steps c = steps_fit

pub returns-clause-kept : goal.returns-clause-kept
returns-clause-kept c = kept_fit
