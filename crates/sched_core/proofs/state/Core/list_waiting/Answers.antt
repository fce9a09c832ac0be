use Rattle.std.proofs.Common.{◌<◌, ◌++◌, length, sym, ap, ◌∙◌, arith, map}
use Rattle.transcripts.specs.Standing.{View, waiting_at}
use Rattle.transcripts.proofs.WholeStands.{waiting_is}
use Rattle.sched_core.proofs.Cores.{queue_there, waiting_here}
use Rattle.sched_core.proofs.Busy.{waits_is}
use Rattle.parked_queue.specs.Waits.{waits_at}
use Rattle.parked_queue.specs.Lists.{delivery_of}
use Rattle.sched_core.proofs.state.Core.list_waiting.Goals as goal

pub returns-clause-listed : goal.returns-clause-listed
returns-clause-listed c =
    let there = queue_there c.self.inside c.args.self.now c.args.queue c.self.view_is c.requires.queue in
    let within : c.args.queue < length c.self.inside.queues = omega (arith, c.self.invariant.queues) in
    c.list_waiting.ensures.listed
    ∙ ap (λ ws. c.args.into.now.items ++ map (delivery_of c.args.queue) ws)
    (sym (waiting_here c.self.inside c.args.queue (waits_at c.self.inside.queues c.args.queue) within (waits_is c.self.inside.queues c.args.queue within)) ∙ ap (λ (v : View). waiting_at v c.args.queue) c.self.view_is)

pub returns-clause-model : goal.returns-clause-model
returns-clause-model c T stands =
    returns-clause-listed c ∙ ap (λ ws. c.args.into.now.items ++ map (delivery_of c.args.queue) ws) (waiting_is c.args.self.now T c.args.queue stands c.requires.queue)
