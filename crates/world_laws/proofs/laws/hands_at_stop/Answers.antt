use Rattle.world_laws.proofs.Rests.{hand_at_rest}
use Rattle.world_laws.proofs.laws.hands_at_stop.Goals as goal

pub returns : goal.returns
returns c = hand_at_rest
