use Rattle.pipeline_app.proofs.Home.{all_home_shut, all_home_swept}
use Rattle.pipeline_app.proofs.obey.obey.Goals as goal

pub returns-in_ok-swept-in-Sweep-clause-home : goal.returns-in_ok-swept-in-Sweep-clause-home
returns-in_ok-swept-in-Sweep-clause-home c = all_home_swept c.args.device.now c.requires.home c.sweep.new.self c.sweep.ensures.others c.sweep.ensures.device

pub returns-in-Shut-clause-home : goal.returns-in-Shut-clause-home
returns-in-Shut-clause-home c = all_home_shut c.args.device.now c.requires.home c.shut.result c.shut.new.self c.shut.ensures.shut
