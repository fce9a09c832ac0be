use Rattle.std.proofs.Common.{ap, ◌∙◌}
use Rattle.transcripts.specs.Standing.{inside_of}
use Rattle.transcripts.proofs.WholeStands.{inside_is}
use Rattle.sched_core.proofs.state.Core.inside.Goals as goal

pub returns-clause-model : goal.returns-clause-model
returns-clause-model c T stands = c.self.invariant.inside ∙ (ap inside_of c.self.view_is ∙ inside_is c.args.self.now T stands)
