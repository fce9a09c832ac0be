use Rattle.std.proofs.Common.{◌∙◌, ap, subst, sym}
use Rattle.evt_types.specs.Plan.{has_flow_lanes}
use Rattle.sched_core.specs.Offered.{AreOpenLanes}
use Rattle.sched_core.proofs.state.Core.deals.Goals as goal

pub returns : goal.returns
returns c =
    let v = c.args.self.now in
    let q = c.args.offer.now.delivery.queue in
    record {
      choice = c.requires.choice;
      ports = ap (has_flow_lanes v.shape) (sym c.queue-queue.ensures) ∙ (sym c.has_flow_lanes.ensures ∙ c.if-has_flow_lanes.false);
      lanes = subst (λ k. AreOpenLanes v c.args.skips.now k c.open_lanes-among.result) c.queue-queue.ensures c.open_lanes-among.ensures;
    }
