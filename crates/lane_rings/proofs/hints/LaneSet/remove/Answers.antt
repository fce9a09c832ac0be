use Rattle.std.proofs.Common.{arith}
use Rattle.std.proofs.lemmas.Grind.{common_steps}
use Rattle.lane_rings.proofs.LaneSets.{fewer_in, still_in}
use Rattle.lane_rings.proofs.hints.LaneSet.remove.Goals as goal

pub returns-then-lane-lt-WORD-clause-fewer : goal.returns-then-lane-lt-WORD-clause-fewer
returns-then-lane-lt-WORD-clause-fewer c =
    fewer_in c.args.self.now _ (still_in c.args.self.now (record { low = c.remove.new.self; high = c.args.self.now.high }) c.args.lane (grind (arith, common_steps)) (grind (arith, common_steps)))

pub returns-then-lane-lt-HINTED-clause-fewer : goal.returns-then-lane-lt-HINTED-clause-fewer
returns-then-lane-lt-HINTED-clause-fewer c =
    fewer_in c.args.self.now _ (still_in c.args.self.now (record { low = c.args.self.now.low; high = c.remove-then-lane-lt-HINTED.new.self }) c.args.lane (grind (arith, common_steps)) (grind (arith, common_steps)))
