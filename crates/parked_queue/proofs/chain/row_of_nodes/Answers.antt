use Rattle.std.proofs.Common.{arith, refl, subst}
use Rattle.parked_queue.specs.Chains.{AreInRow}
use Rattle.parked_queue.proofs.NewStores.{row_none, row_pushed}
use Rattle.parked_queue.proofs.chain.row_of_nodes.Goals as goal

pub loop-node-init : goal.loop-node-init
loop-node-init c = record { row = row_none _ c.in_ok-nodes.ensures.items; room = c.in_ok-nodes.ensures.capacity }

pub push_reserved-requires : goal.push_reserved-requires
push_reserved-requires c = omega (arith, c.loop-node.invariant.room, c.loop-node.invariant.row.count, c.loop-node.nodes.ok.0, c.loop-node-test.true)

pub loop-node-preserved : goal.loop-node-preserved
loop-node-preserved c =
    record {
      row = row_pushed _ _ c.loop-node.node _ c.loop-node.invariant.row c.push_reserved.ensures.items refl;
      room = omega (arith, c.push_reserved.ensures.capacity, c.loop-node.invariant.room);
    }

pub returns : goal.returns
returns c = subst (AreInRow c.loop-node.nodes.items) (omega arith) c.loop-node.invariant.row
