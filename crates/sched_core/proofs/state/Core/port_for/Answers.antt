-- The best lane by the pins and histories is the best one to clauses.
use Rattle.std.proofs.Common.{ap, arith}
use Rattle.evt_types.specs.Plan.{lanes_of}
use Rattle.sched_core.proofs.OpenLanes.{best_here, best_holds, none_holds}
use Rattle.transcripts.specs.Standing.{View}
use Rattle.sched_core.proofs.state.Core.port_for.Goals as goal

pub lane_among-requires-clause-lanes : goal.lane_among-requires-clause-lanes
lane_among-requires-clause-lanes c l has = omega (arith, c.requires.lanes l has, c.self.invariant.lanes, ap (λ (v : View). lanes_of v.shape) c.self.view_is)

pub returns-clause-fits : goal.returns-clause-fits
returns-clause-fits c =
    best_holds c.self.inside c.args.self.now c.args.lanes c.args.queue c.args.slot c.self.invariant c.self.view_is c.requires.queue c.requires.lanes c.lane_among.result c.lane_among.ensures.best

pub returns-clause-best : goal.returns-clause-best
returns-clause-best c =
    best_here c.self.inside c.args.self.now c.args.lanes c.args.queue c.args.slot c.self.invariant c.self.view_is c.requires.queue c.requires.lanes c.lane_among.result c.lane_among.ensures.best

pub returns-clause-none : goal.returns-clause-none
returns-clause-none c =
    none_holds c.self.inside c.args.self.now c.args.lanes c.args.queue c.args.slot c.self.invariant c.self.view_is c.requires.queue c.requires.lanes c.lane_among.result c.lane_among.ensures.none
