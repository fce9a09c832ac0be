use Rattle.std.proofs.Common.{length, slice_get, vec_len}
use Rattle.parked_queue.specs.Chains.{path}
use Rattle.parked_queue.proofs.Walks.{IsPassed}
use Rattle.parked_queue.proofs.chain.node_before.Given as goal

abbrev pub invariant-loop-node : goal.invariant-loop-node
invariant-loop-node l = IsPassed (slice_get l.nodes.items) (vec_len l.nodes) l.chain l.number l.before l.node

abbrev pub decreases-loop-node : goal.decreases-loop-node
decreases-loop-node l = length (path (slice_get l.nodes.items) l.chain.spare (vec_len l.nodes) l.node)
