use Rattle.std.proofs.Common.{length, take, ap, sym, ◌∙◌, subst, []}
use Rattle.std.proofs.lemmas.List.{length-replicate, take_all}
use Rattle.pipeline_laws.proofs.AcceptedEvents.{hold_none, hold_step}
use Rattle.pipeline_laws.proofs.Pasts.{length-rows}
use Rattle.pipeline_laws.specs.Past.{HoldAccepted}
use Rattle.pipeline_laws.proofs.accepted.accepted_events.Goals as goal

pub loop-step-init : goal.loop-step-init
loop-step-init c =
    record {
      count = sym (length-rows c.in_ok-lists.lists.items) ∙ (ap length c.in_ok-lists.ensures ∙ length-replicate c.args.queues []);
      hold = hold_none c.args.queues c.in_ok-lists.lists.items c.in_ok-lists.ensures;
    }

pub loop-step-preserved : goal.loop-step-preserved
loop-step-preserved c =
    let log = c.args.log.now in
    let index = c.loop-step.step-index in
    record {
      count = c.in_ok-add_accepted.ensures.count ∙ c.loop-step.invariant.count;
      hold = hold_step log index c.step-item.result c.add_accepted.new.lists.items c.loop-step-test.true c.step-item.is
          (c.in_ok-add_accepted.ensures.hold (take index log) c.loop-step.invariant.hold);
    }

pub returns-clause-hold : goal.returns-clause-hold
returns-clause-hold c = subst (λ T. HoldAccepted T c.loop-step.lists.items) (take_all c.loop-step.step-index c.args.log.now c.loop-step-test.false) c.loop-step.invariant.hold
