use Rattle.transcripts.specs.Standing.{places_at}
use Rattle.std.proofs.Common.{get_or}
use Rattle.order_parts.specs.Reorder.{kept_of, open_place}
use Rattle.sched_core.proofs.KeptLists.{IsBegun}
use Rattle.sched_core.proofs.state.Core.list_place.Given as goal

abbrev pub invariant-loop-nth : goal.invariant-loop-nth
invariant-loop-nth l = IsBegun l.fn.into l.into l.queue (kept_of (get_or (places_at l.self l.queue) l.index (open_place 0))) l.nth
