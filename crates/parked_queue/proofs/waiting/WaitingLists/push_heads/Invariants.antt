use Rattle.std.proofs.Common.{◌≡◌, ◌++◌, ℕ, List, length, map, slice_get}
use Rattle.evt_types.specs.declared.event.Numbered.{Numbered}
use Rattle.parked_queue.specs.Chains.{items}
use Rattle.parked_queue.specs.Lists.{named_delivery, list_at}
use Rattle.parked_queue.proofs.Walks.{IsLeft}
use Rattle.parked_queue.proofs.waiting.WaitingLists.push_heads.Given as goal

abbrev pub invariant-loop : goal.invariant-loop
invariant-loop l =
    record {
      heads : List Numbered;
      rest : List ℕ;
      left : IsLeft (slice_get l.self-inside.nodes.items) l.chain.spare l.cursor rest;
      whole : list_at l.self l.list ≡ heads ++ items (slice_get l.self-inside.nodes.items) rest;
      longer : l.into.items ≡ l.fn.into.items ++ map named_delivery heads;
      count : length heads ≡ l.counter;
    }
