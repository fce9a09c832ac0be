use Rattle.std.proofs.Common.{arith}
use Rattle.evt_types.specs.Plan.{lanes_of}
use Rattle.judge_app.proofs.breaches.depth_at.Goals as goal

pub depth_of-requires : goal.depth_of-requires
unfolding lanes_of
depth_of-requires c = omega (arith, c.port_count.ensures)
