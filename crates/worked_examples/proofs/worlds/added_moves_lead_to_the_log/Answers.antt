use Rattle.worked_examples.proofs.Added.{added_hand, added_moves_are, added_run}
use Rattle.worked_examples.proofs.worlds.added_moves_lead_to_the_log.Goals as goal

pub returns : goal.returns
returns c = record { moves = added_moves_are; run = added_run; hand = added_hand }
