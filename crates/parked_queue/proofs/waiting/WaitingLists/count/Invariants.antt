use Rattle.std.proofs.Common.{◌≡◌, ◌+◌, ◌-◌, ℕ, List, length, slice_get}
use Rattle.parked_queue.specs.Lists.{list_at}
use Rattle.parked_queue.proofs.Walks.{IsLeft}
use Rattle.parked_queue.proofs.waiting.WaitingLists.count.Given as goal

abbrev pub invariant-loop-cursor : goal.invariant-loop-cursor
invariant-loop-cursor l =
    record {
      rest : List ℕ;
      left : IsLeft (slice_get l.self-inside.nodes.items) l.chain.spare l.cursor rest;
      count : l.count + length rest ≡ length (list_at l.self l.list);
    }

abbrev pub decreases-loop-cursor : goal.decreases-loop-cursor
decreases-loop-cursor l = length (list_at l.self l.list) - l.count
