use Rattle.std.proofs.Common.{rules, ◌≡◌, ◌<◌, ap, arith, get_or, length, sym, ◌∙◌}
use Rattle.evt_types.specs.declared.event.Event.{Event}
use Rattle.evt_types.specs.declared.event.Reply.{Reply}
use Rattle.step_log.proofs.Forwards.{pair_pushed}
use Rattle.step_log.proofs.log.StepLog.push_forwards.Goals as goal

pub loop-index-preserved : goal.loop-index-preserved
loop-index-preserved g c =
    let i = c.loop-index.index in
    let rs = c.args.replies.now in
    let r = c.index-replies-index.result in
    let within : i < length rs = c.loop-index-test.true in
    let here : r ≡ get_or rs i r = search rules in
    let target : c.args.target ≡ c.unpack-event.result.queue =
    sym (ap (λ (e : Event). e.queue) c.unpack-event.ensures ∙ (ap (λ (x : Reply). x.event.queue) here ∙ c.requires.target i r within)) in (
      pair_pushed c.args.lane c.args.source c.args.numbers.now rs i _ c.args.target r c.unpack-event.result (g.Self.StepLog.steps c.args.self.now) (g.Self.StepLog.steps c.loop-index.self) (g.Self.StepLog.steps c.push_step.new.self)
          (g.Self.StepLog.steps c.push_step-in-loop-index.new.self) (omega (arith, within, c.requires.pairs)) within (search rules) here c.unpack-event.ensures target c.loop-index.invariant.0 c.push_step.ensures.steps c.push_step-in-loop-index.ensures.steps,
      omega (arith, c.loop-index.invariant.1, c.push_step.ensures.room, c.push_step-in-loop-index.ensures.room),
    )
