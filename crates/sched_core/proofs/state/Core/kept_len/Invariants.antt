use Rattle.std.proofs.Common.{◌≡◌, take}
use Rattle.transcripts.specs.Standing.{places_at}
use Rattle.sched_core.proofs.Counted.{kept_count}
use Rattle.sched_core.proofs.state.Core.kept_len.Given as goal

abbrev pub invariant-loop-index : goal.invariant-loop-index
invariant-loop-index l = l.count ≡ kept_count (take l.index (places_at l.self l.queue))
