use Rattle.evt_types.proofs.FlowLanes.{port_is_lane}
use Rattle.std.proofs.Common.{sym, ◌∙◌}
use Rattle.sched_core.proofs.OpenLanes.{held_best, held_fits, held_none}
use Rattle.sched_core.proofs.state.Core.lane_for.Goals as goal

pub port_for-requires-clause-lanes : goal.port_for-requires-clause-lanes
port_for-requires-clause-lanes c l has = port_is_lane c.args.self.now.shape l ((c.requires.lanes l).0 has).lane

pub returns-else-has_flow_lanes-clause-fits : goal.returns-else-has_flow_lanes-clause-fits
returns-else-has_flow_lanes-clause-fits c = held_fits c.args.self.now c.args.skips.now c.args.queue c.args.slot c.args.lanes c.port_for.result c.requires.lanes c.port_for.ensures.fits

pub returns-else-has_flow_lanes-clause-best : goal.returns-else-has_flow_lanes-clause-best
returns-else-has_flow_lanes-clause-best c = held_best c.args.self.now c.args.skips.now c.args.queue c.args.slot c.args.lanes c.port_for.result (sym c.has_flow_lanes.ensures ∙ c.if-has_flow_lanes.false) c.requires.lanes c.port_for.ensures.best

pub returns-else-has_flow_lanes-clause-none : goal.returns-else-has_flow_lanes-clause-none
returns-else-has_flow_lanes-clause-none c = held_none c.args.self.now c.args.skips.now c.args.queue c.args.slot c.args.lanes c.port_for.result (sym c.has_flow_lanes.ensures ∙ c.if-has_flow_lanes.false) c.requires.lanes c.port_for.ensures.none
