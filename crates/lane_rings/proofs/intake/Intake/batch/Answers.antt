use Rattle.std.proofs.Common.{take, drop, ap, ◌∙◌}
use Rattle.lane_rings.proofs.Handing.{row-between}
use Rattle.lane_rings.proofs.intake.Intake.batch.Goals as goal

pub returns : goal.returns
returns g c = row-between c.args.self.now.at c.args.self.now.end c.deref.result.now c.args.self.now.within.0 ∙ ap (λ xs. drop c.args.self.now.at (take c.args.self.now.end xs)) c.deref.ensures.value
