use Rattle.std.proofs.Common.{◌≤◌, vec_capacity}
use Rattle.parked_queue.specs.Chains.{AreInRow}
use Rattle.parked_queue.proofs.chain.row_of_nodes.Given as goal

abbrev pub invariant-loop-node : goal.invariant-loop-node
invariant-loop-node l = record { row : AreInRow l.nodes.items l.node; room : l.count ≤ vec_capacity l.nodes }
