use Rattle.transcripts.proofs.Sweeps.{sweep_fits}
use Rattle.transcripts.proofs.laws.a_sweep_fits.Goals as goal

pub returns : goal.returns
returns c = sweep_fits
