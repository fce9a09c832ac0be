use Rattle.std.proofs.Common.{◌+◌, arith}
use Rattle.std.proofs.lemmas.Grind.{common_steps}
use Rattle.lane_rings.proofs.LaneSets.{one_less_in}
use Rattle.lane_rings.proofs.hints.LaneSet.take_lowest.Goals as goal

pub returns-in-Some-clause-fewer : goal.returns-in-Some-clause-fewer
returns-in-Some-clause-fewer c =
    one_less_in c.args.self.now (record { low = c.pop.new.self; high = c.args.self.now.high }) c.in-Some.lane (grind (arith, common_steps)) (grind (arith, common_steps)) (grind (arith, common_steps)) (grind (arith, common_steps))

pub returns-clause-fewer : goal.returns-clause-fewer
returns-clause-fewer c =
    one_less_in c.args.self.now (record { low = c.pop.new.self; high = c.pop-2.new.self }) (64 + c.in_ok-lane.lane) (grind (arith, common_steps)) (grind (arith, common_steps)) (grind (arith, common_steps)) (grind (arith, common_steps))
