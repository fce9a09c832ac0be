use Rattle.world_laws.proofs.Found.{found_is_a_run}
use Rattle.world_laws.proofs.Rests.{rests_are_a_run}
use Rattle.world_laws.proofs.laws.stop_is_a_run.Goals as goal

pub returns-clause-world : goal.returns-clause-world
returns-clause-world c = found_is_a_run

pub returns-clause-rests : goal.returns-clause-rests
returns-clause-rests c = rests_are_a_run
