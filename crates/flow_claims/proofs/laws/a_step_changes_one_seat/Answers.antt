use Rattle.flow_claims.proofs.Changes.{may_change, same_split, same_join}
use Rattle.flow_claims.proofs.laws.a_step_changes_one_seat.Goals as goal

pub returns-clause-step : goal.returns-clause-step
returns-clause-step c = may_change

pub returns-clause-split : goal.returns-clause-split
returns-clause-split c lanes s i v rule = same_split lanes s i v

pub returns-clause-join : goal.returns-clause-join
returns-clause-join c lanes s i j v w rule = same_join lanes s i j v w
