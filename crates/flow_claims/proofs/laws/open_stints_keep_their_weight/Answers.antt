use Rattle.flow_claims.proofs.Weighing.{claimed_received, claimed_answered, ended_received, ended_answered}
use Rattle.flow_claims.proofs.laws.open_stints_keep_their_weight.Goals as goal

pub returns-clause-claimed : goal.returns-clause-claimed
returns-clause-claimed c port lane v after stint others a all = (claimed_received port lane v after stint others a all, claimed_answered port lane v after stint others a all)

pub returns-clause-ended : goal.returns-clause-ended
returns-clause-ended c claims gone stint before after others is apart = (ended_received claims gone stint before after others is apart, ended_answered claims gone stint before after others is apart)
