use Rattle.device_tests.proofs.Wholes.{parts_as_made}
use Rattle.device_tests.proofs.tests.whole.Whole.new.Goals as goal

pub returns : goal.returns
returns c = parts_as_made _ _ _ _ c.in_ok-scheduler.ensures.made _ c.begin.ensures.sight
