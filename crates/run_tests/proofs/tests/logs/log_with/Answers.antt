use Rattle.std.proofs.Common.{◌∙◌, refl}
use Rattle.run_tests.proofs.LawfulLogs.{entry_is}
use Rattle.run_tests.proofs.tests.logs.log_with.Goals as goal

pub returns : goal.returns
returns c = rw c.forwarded-sum.ensures (rw (c.event-event.ensures ∙ entry_is _) refl)
