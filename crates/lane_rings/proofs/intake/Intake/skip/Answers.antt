use Rattle.rtrb.specs.Ring.{received}
use Rattle.lane_rings.specs.Intakes.{inside}
use Rattle.lane_rings.proofs.Handing.{row-skips, some-last, some-passed}
use Rattle.lane_rings.proofs.intake.Intake.skip.Goals as goal

pub invariant_of-self-clause-last : goal.invariant_of-self-clause-last
invariant_of-self-clause-last g c =
    some-last c.args.count (received c.args.self.now.ring) (inside c.args.self.now) _ c.args.self.now.last (row-skips c.args.count c.args.self.now.at c.args.self.now.end c.args.self.now.places.items)

pub returns-clause-handed : goal.returns-clause-handed
returns-clause-handed g c =
    some-passed c.args.count (received c.args.self.now.ring) (inside c.args.self.now) _ c.args.self.now.last (row-skips c.args.count c.args.self.now.at c.args.self.now.end c.args.self.now.places.items)
