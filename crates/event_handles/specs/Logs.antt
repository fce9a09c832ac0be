-- The steps of the log that a hub keeps.
use Rattle.std.specs.Prelude.{List}
use Rattle.evt_types.specs.declared.step.Step.{Step}
use Rattle.step_log.specs.declared.counted.Counted.{Counted}

-- all that the scheduler did, of which a tally keeps the counts alone
abbrev pub steps_logged : Counted → List Step
steps_logged log = log.seen.seen
