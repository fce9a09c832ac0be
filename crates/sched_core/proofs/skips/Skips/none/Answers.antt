use Rattle.std.proofs.Common.{replicate, Bool, List, ap}
use Rattle.transcripts.specs.Choice.{Passed}
use Rattle.sched_core.proofs.LaneSets.{no_lanes}
use Rattle.sched_core.proofs.skips.Skips.none.Goals as goal

pub returns : goal.returns
returns c = ap (λ (lanes : List Bool). let passed : Passed = record { bounced = lanes; given = replicate 32 0 } in passed) (no_lanes c.none.result c.none.ensures)
