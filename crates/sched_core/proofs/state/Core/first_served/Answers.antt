use Rattle.sched_core.proofs.Service.{ahead_here, lowest_before, served_first}
use Rattle.sched_core.proofs.state.Core.first_served.Goals as goal

pub loop-first-preserved : goal.loop-first-preserved
loop-first-preserved c =
    let v = c.args.self.now in
    let q = c.loop-first.first in
    let are = ahead_here c.self.inside v q c.index.result.now c.self.view_is c.self.invariant (c.requires q c.loop-first.invariant.there) c.index.ensures in
    lowest_before v.shape c.args.queues c.index.result.now c.both.result q c.requires are c.both.ensures c.in-Some.ahead c.in-Some.ensures.first

pub returns-clause-first : goal.returns-clause-first
returns-clause-first c =
    let v = c.args.self.now in
    let q = c.loop-first.first in
    let are = ahead_here c.self.inside v q c.index.result.now c.self.view_is c.self.invariant (c.requires q c.loop-first.invariant.there) c.index.ensures in
    served_first v.shape c.args.queues c.index.result.now c.both.result q c.requires are c.both.ensures c.in_default.ensures.none c.loop-first.invariant
