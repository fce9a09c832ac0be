use Rattle.transcripts.specs.Standing.{places_at}
use Rattle.sched_core.proofs.KeptLists.{IsListed}
use Rattle.sched_core.proofs.state.Core.list_kept.Given as goal

abbrev pub invariant-loop-index : goal.invariant-loop-index
invariant-loop-index l = IsListed l.fn.into l.into l.queue (places_at l.self l.queue) l.index
