use Rattle.std.proofs.Common.{◌≡◌, ◌+◌, ◌-◌, ◌≤◌, ◌++◌, ℕ, List, length, map, slice_get, vec_len, vec_capacity}
use Rattle.parked_queue.specs.Chains.{items}
use Rattle.parked_queue.specs.Lists.{named_delivery, list_at}
use Rattle.parked_queue.proofs.Walks.{IsLeft}
use Rattle.parked_queue.proofs.waiting.WaitingLists.push_deliveries.Given as goal

abbrev pub invariant-loop-cursor : goal.invariant-loop-cursor
invariant-loop-cursor l =
    record {
      rest : List ℕ;
      left : IsLeft (slice_get l.self-inside.nodes.items) l.chain.spare l.cursor rest;
      deliveries : l.into.items ++ map named_delivery (items (slice_get l.self-inside.nodes.items) rest) ≡ l.fn.into.items ++ map named_delivery (list_at l.self l.list);
      room : vec_len l.into + length rest ≤ vec_capacity l.into;
      capacity : vec_capacity l.into ≡ vec_capacity l.fn.into;
    }

abbrev pub decreases-loop-cursor : goal.decreases-loop-cursor
decreases-loop-cursor l = vec_capacity l.into - vec_len l.into
