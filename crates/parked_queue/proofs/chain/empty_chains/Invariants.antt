use Rattle.std.proofs.Common.{◌≤◌, vec_capacity}
use Rattle.parked_queue.specs.Chains.{AreNewChains}
use Rattle.parked_queue.proofs.chain.empty_chains.Given as goal

abbrev pub invariant-loop-node : goal.invariant-loop-node
invariant-loop-node l = record { each : AreNewChains l.chains.items l.node; room : l.count ≤ vec_capacity l.chains }
