use Rattle.std.proofs.Common.{◌≤◌, List, length, sym, ◌∙◌, subst}
use Rattle.evt_types.specs.declared.flows.FlowLane.{FlowLane}
use Rattle.evt_types.specs.declared.shape.TheConstants.{MAX_ALL_SLOTS}
use Rattle.evt_types.proofs.FlowLanes.{flows_few}
use Rattle.evt_types.proofs.shape.Shape.flows.Goals as goal

pub returns-clause-few : goal.returns-clause-few
returns-clause-few c =
    subst (λ (flows : List FlowLane). length flows ≤ MAX_ALL_SLOTS) (sym (c.deref.ensures.value ∙ c.self.invariant.flows)) (flows_few _ c.self.invariant.within)
