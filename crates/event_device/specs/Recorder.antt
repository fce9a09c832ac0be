-- What contracts see of a recorder.
use Rattle.std.specs.Prelude.{List}
use Rattle.event_scheduler.specs.Scheduler.{Sight}
use Rattle.evt_types.specs.declared.step.Step.{Step}

-- its scheduler, and the log of all that this did
pub record Recorded : Type 0 where
  pub sight : Sight
  pub log : List Step
