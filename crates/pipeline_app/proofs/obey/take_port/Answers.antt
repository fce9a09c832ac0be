use Rattle.pipeline_app.proofs.Home.{none_away}
use Rattle.pipeline_app.proofs.obey.take_port.Goals as goal

pub unreachable-requires : goal.unreachable-requires
unreachable-requires c = none_away c.args.device.now c.requires.home c.args.number c.requires.there c.in-None.ensures.lent.0
