use Rattle.std.proofs.Common.{◌≡◌, ◌∙◌, true, false, sym, subst}
use Rattle.evt_types.specs.Plan.{has_flow_lanes}
use Rattle.transcripts.specs.Standing.{View}
use Rattle.sched_core.proofs.OpenLanes.{flows_allowed, none_allowed, ports_allowed}
use Rattle.sched_core.specs.Offered.{AreOpenLanes, HasAllowed}
use Rattle.sched_core.proofs.Cores.{queue_there}
use Rattle.sched_core.proofs.state.Core.allowed.Goals as goal

pub returns-then-has_flow_lanes-clause-allowed : goal.returns-then-has_flow_lanes-clause-allowed
returns-then-has_flow_lanes-clause-allowed c =
    let a = c.self.inside in
    let h = queue_there c.self.inside c.args.self.now c.args.queue c.self.view_is c.requires.queue in
    let flows : has_flow_lanes a.shape c.args.queue ≡ true = subst (λ (v : View). has_flow_lanes v.shape c.args.queue ≡ true) (sym c.self.view_is) (sym c.has_flow_lanes.ensures ∙ c.if-has_flow_lanes.true) in
    subst (λ v. HasAllowed v c.args.skips.now c.args.queue c.index.result.now) c.self.view_is
    (flows_allowed a c.args.skips.now c.args.queue c.index.result.now c.self.invariant h flows c.index.ensures)

pub returns-then-is_empty-clause-allowed : goal.returns-then-is_empty-clause-allowed
returns-then-is_empty-clause-allowed c =
    none_allowed c.args.self.now c.args.skips.now c.args.queue c.args.lanes c.args.lanes (sym c.has_flow_lanes.ensures ∙ c.if-has_flow_lanes.false) c.requires.lanes (c.is_empty.ensures.0 c.if-is_empty.true)

pub returns-clause-allowed : goal.returns-clause-allowed
returns-clause-allowed c =
    let a = c.self.inside in
    let h = queue_there c.self.inside c.args.self.now c.args.queue c.self.view_is c.requires.queue in
    let ports : has_flow_lanes a.shape c.args.queue ≡ false = subst (λ (v : View). has_flow_lanes v.shape c.args.queue ≡ false) (sym c.self.view_is) (sym c.has_flow_lanes.ensures ∙ c.if-has_flow_lanes.false) in
    subst (λ v. HasAllowed v c.args.skips.now c.args.queue c.slots_off.result) c.self.view_is
    (ports_allowed a c.args.skips.now c.args.queue c.args.lanes c.index-2.result.now c.except-closed.result c.slots_off.result c.self.invariant h ports (subst (λ v. AreOpenLanes v c.args.skips.now c.args.queue c.args.lanes) (sym c.self.view_is) c.requires.lanes) c.except-closed.ensures c.slots_off.ensures.off)
