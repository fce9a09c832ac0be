use Rattle.device_tests.proofs.tests.runs.+fn-run_below-join+arg3+run_below.Given as goal

abbrev pub decreases-join+arg3 : goal.decreases-join+arg3
decreases-join+arg3 g l = l.below

abbrev pub decreases-run_below : goal.decreases-run_below
decreases-run_below g l = l.number
