use Rattle.transcript_judge.proofs.Verdicts.{verdicts_agree}
use Rattle.transcript_judge.proofs.laws.verdicts_are_one.Goals as goal

pub returns : goal.returns
returns c = verdicts_agree
