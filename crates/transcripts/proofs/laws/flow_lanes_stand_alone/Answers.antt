use Rattle.transcripts.proofs.FlowAlone.{one_lane, flow_alone}
use Rattle.transcripts.proofs.laws.flow_lanes_stand_alone.Goals as goal

pub returns-clause-lane : goal.returns-clause-lane
returns-clause-lane c = one_lane

pub returns-clause-alone : goal.returns-clause-alone
returns-clause-alone c = flow_alone
