use Rattle.std.proofs.Common.{◌≡◌}
use Rattle.event_handles.proofs.KindLists.{written}
use Rattle.event_handles.proofs.draft.kinds_of.Given as goal

abbrev pub invariant-loop-number : goal.invariant-loop-number
invariant-loop-number l = l.kinds ≡ written l.queues l.number
