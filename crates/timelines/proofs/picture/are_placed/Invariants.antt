use Rattle.std.proofs.Common.{take}
use Rattle.std.specs.Prelude.{All}
use Rattle.timelines.specs.Links.{IsPlaced}
use Rattle.timelines.proofs.picture.are_placed.Given as goal

abbrev pub invariant-loop-step : goal.invariant-loop-step
invariant-loop-step l = All (IsPlaced l.queues l.lanes) (take l.step-index l.log)
