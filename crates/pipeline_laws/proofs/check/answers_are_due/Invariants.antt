use Rattle.pipeline_laws.proofs.Readings.{Reading}
use Rattle.pipeline_laws.proofs.check.answers_are_due.Given as goal

abbrev pub invariant-loop-step : goal.invariant-loop-step
invariant-loop-step l = Reading l.queues l.lanes l.actions l.log l.step-index l.past
