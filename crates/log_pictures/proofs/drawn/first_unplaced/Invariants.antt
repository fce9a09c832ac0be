use Rattle.std.proofs.Common.{take}
use Rattle.std.specs.Prelude.{All}
use Rattle.timelines.specs.Links.{IsPlaced}
use Rattle.log_pictures.proofs.drawn.first_unplaced.Given as goal

abbrev pub invariant-loop-at : goal.invariant-loop-at
invariant-loop-at l = All (IsPlaced l.queues l.lanes) (take l.at l.log)
