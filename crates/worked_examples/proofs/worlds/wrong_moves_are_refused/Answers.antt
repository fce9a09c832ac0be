use Rattle.worked_examples.proofs.WorldsRefused.{added_refused, many_refused, twice_refused, unreceived_refused, unsubmitted_refused}
use Rattle.worked_examples.proofs.worlds.wrong_moves_are_refused.Goals as goal

pub returns : goal.returns
returns c = record { unreceived = unreceived_refused; added = added_refused; many = many_refused; twice = twice_refused; unsubmitted = unsubmitted_refused }
