use Rattle.std.proofs.Common.{drop, slice_get, vec_len}
use Rattle.parked_queue.specs.Chains.{path_of}
use Rattle.parked_queue.proofs.Walks.{IsLeft}
use Rattle.parked_queue.proofs.chain.node_behind.Given as goal

abbrev pub invariant-loop : goal.invariant-loop
invariant-loop l =
    IsLeft (slice_get l.nodes.items) l.fn.chain.spare l.node (drop l.counter (path_of (slice_get l.nodes.items) (vec_len l.nodes) l.fn.chain))
