use Rattle.step_tally.proofs.Balance.{given_by_lane}
use Rattle.step_tally.proofs.laws.given_are_given_to_lanes.Goals as goal

pub returns : goal.returns
returns c = given_by_lane
