use Rattle.worked_examples.proofs.Early.{early_differs, early_run}
use Rattle.worked_examples.proofs.worlds.other_moves_lead_there_too.Goals as goal

pub returns : goal.returns
returns c = record { run = early_run; other = early_differs }
