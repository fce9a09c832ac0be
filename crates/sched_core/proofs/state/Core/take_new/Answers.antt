use Rattle.sched_core.proofs.Steps.{new_told, taken_stands}
use Rattle.sched_core.proofs.state.Core.take_new.Goals as goal

pub returns-clause-stands : goal.returns-clause-stands
returns-clause-stands g c T stands = taken_stands c.args.self.now c.enter.new.self T c.args.lane c.args.reply.now.event _ (new_told _ c.requires.new) c.enter.ensures.view c.requires.lane c.requires.takes stands
