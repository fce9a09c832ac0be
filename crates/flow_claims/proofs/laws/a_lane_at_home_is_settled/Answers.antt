use Rattle.flow_claims.proofs.Boards.{free_at_home, over_by}
use Rattle.flow_claims.proofs.laws.a_lane_at_home_is_settled.Goals as goal

pub returns-clause-free : goal.returns-clause-free
returns-clause-free c lanes s lane rule = free_at_home lanes s rule lane

pub returns-clause-over : goal.returns-clause-over
returns-clause-over c lanes s lane rule = over_by lanes s rule lane
