use Rattle.std.proofs.Common.{arith, subst}
use Rattle.parked_queue.specs.Chains.{AreNewChains}
use Rattle.parked_queue.proofs.NewStores.{chains_none, chains_pushed}
use Rattle.parked_queue.proofs.chain.empty_chains.Goals as goal

pub loop-node-init : goal.loop-node-init
loop-node-init c = record { each = chains_none _ c.in_ok-chains.ensures.items; room = c.in_ok-chains.ensures.capacity }

pub loop-node-preserved : goal.loop-node-preserved
loop-node-preserved c =
    record {
      each = chains_pushed _ _ c.loop-node.node c.loop-node.invariant.each c.push_reserved.ensures.items;
      room = omega (arith, c.push_reserved.ensures.capacity, c.loop-node.invariant.room);
    }

pub push_reserved-requires : goal.push_reserved-requires
push_reserved-requires c = omega (arith, c.loop-node.invariant.room, c.loop-node.invariant.each.count, c.loop-node.chains.ok.0, c.loop-node-test.true)

pub returns : goal.returns
returns c = subst (AreNewChains c.loop-node.chains.items) (omega arith) c.loop-node.invariant.each
