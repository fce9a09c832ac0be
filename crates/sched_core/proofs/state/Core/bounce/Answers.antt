use Rattle.transcripts.proofs.WholeStands.{stands_bounced}
use Rattle.sched_core.proofs.state.Core.bounce.Goals as goal

pub returns-clause-stands : goal.returns-clause-stands
returns-clause-stands g c T stands = stands_bounced c.args.self.now T c.args.lane stands c.requires.lane
