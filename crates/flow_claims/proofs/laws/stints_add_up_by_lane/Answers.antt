use Rattle.flow_claims.proofs.ByLane.{sum_by_lane}
use Rattle.flow_claims.proofs.Boards.{held_by_lane}
use Rattle.flow_claims.proofs.laws.stints_add_up_by_lane.Goals as goal

pub returns-clause-finished : goal.returns-clause-finished
returns-clause-finished c n ps f = sum_by_lane f n ps

pub returns-clause-held : goal.returns-clause-held
returns-clause-held c lanes s i v rule = held_by_lane lanes s rule i v
