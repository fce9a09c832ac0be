use Rattle.event_scheduler.proofs.Silence.{silent}
use Rattle.event_scheduler.proofs.laws.a_full_ring_ends_a_lane.Goals as goal

pub returns : goal.returns
returns c = silent
