use Rattle.history_judge.proofs.Impossible.{breach_fits_none}
use Rattle.history_judge.proofs.laws.breaches_are_impossible.Goals as goal

pub returns : goal.returns
returns c p hs b breach = breach_fits_none p hs b breach
