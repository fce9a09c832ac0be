use Rattle.std.proofs.Common.{length, sym, ap, ◌∙◌}
use Rattle.event_device.specs.Device.{Device}
use Rattle.pipeline_app.proofs.Playing.{next_there, played_more}
use Rattle.pipeline_app.proofs.obey.obey_all.Goals as goal

pub obey-requires-clause-there : goal.obey-requires-clause-there
obey-requires-clause-there c =
    next_there c.args.commands.now c.loop-command.command-index c.command-item.result _ _ c.loop-command-test.true c.command-item.is (ap (λ (d : Device). length d.plan.ports) (sym c.loop-command.invariant.1)) c.requires.there

pub loop-command-preserved : goal.loop-command-preserved
loop-command-preserved c = (
  c.obey.ensures.home,
  c.obey.ensures.device ∙ c.loop-command.invariant.1,
  played_more c.args.commands.now c.loop-command.command-index c.command-item.result c.loop-command-test.true c.command-item.is _ _ _ _ _ _ c.loop-command.invariant.2 c.in_ok-answer.ensures.answer c.in_ok-push.ensures.items,
)
