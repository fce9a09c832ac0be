use Rattle.std.proofs.Common.{refl, slice_get, vec_len}
use Rattle.parked_queue.proofs.Nodes.{list_within, node_read}
use Rattle.parked_queue.proofs.Walks.{first_next, passed_all, passed_fewer, passed_first, passed_found, passed_more, passed_next}
use Rattle.parked_queue.proofs.chain.node_before.Goals as goal

pub loop-node-init : goal.loop-node-init
loop-node-init c =
    let at = slice_get c.args.nodes.now.items in
    let first = first_next at c.requires.chain.owner c.requires.chain.k (vec_len c.args.nodes.now) c.args.chain c.requires.chain.is c.if-chain.false in
    passed_first at (vec_len c.args.nodes.now) c.args.chain c.args.number c.requires.chain.owner c.requires.chain.k c.index.result.now.next c.index.result.now c.requires.chain.is c.if-chain.false
    (node_read c.args.nodes.now c.args.chain.first c.index.result.now (list_within c.args.nodes.now c.args.chain.first first.there) c.index.ensures)
    refl c.requires.other

pub index-requires-in-loop-node : goal.index-requires-in-loop-node
index-requires-in-loop-node c =
    list_within c.args.nodes.now c.loop-node.node
    (passed_next (slice_get c.args.nodes.now.items) (vec_len c.args.nodes.now) c.args.chain c.args.number c.loop-node.before c.loop-node.node c.loop-node.invariant c.loop-node-test.true).there

pub returns-then-item-number-clause-found : goal.returns-then-item-number-clause-found
returns-then-item-number-clause-found c =
    let step = passed_next (slice_get c.args.nodes.now.items) (vec_len c.args.nodes.now) c.args.chain c.args.number c.loop-node.before c.loop-node.node c.loop-node.invariant c.loop-node-test.true in
    passed_found (slice_get c.args.nodes.now.items) (vec_len c.args.nodes.now) c.args.chain c.args.number c.loop-node.before c.loop-node.node c.loop-node.invariant c.index-in-loop-node.result.now c.loop-node-test.true (node_read c.args.nodes.now c.loop-node.node c.index-in-loop-node.result.now (list_within c.args.nodes.now c.loop-node.node step.there) c.index-in-loop-node.ensures) c.if-item-number.true

pub loop-node-smaller : goal.loop-node-smaller
loop-node-smaller c =
    let step = passed_next (slice_get c.args.nodes.now.items) (vec_len c.args.nodes.now) c.args.chain c.args.number c.loop-node.before c.loop-node.node c.loop-node.invariant c.loop-node-test.true in
    passed_fewer (slice_get c.args.nodes.now.items) (vec_len c.args.nodes.now) c.args.chain c.args.number c.loop-node.before c.loop-node.node c.loop-node.invariant c.index-in-loop-node.result.now c.loop-node-test.true (node_read c.args.nodes.now c.loop-node.node c.index-in-loop-node.result.now (list_within c.args.nodes.now c.loop-node.node step.there) c.index-in-loop-node.ensures)

pub loop-node-preserved : goal.loop-node-preserved
loop-node-preserved c =
    let step = passed_next (slice_get c.args.nodes.now.items) (vec_len c.args.nodes.now) c.args.chain c.args.number c.loop-node.before c.loop-node.node c.loop-node.invariant c.loop-node-test.true in
    passed_more (slice_get c.args.nodes.now.items) (vec_len c.args.nodes.now) c.args.chain c.args.number c.loop-node.before c.loop-node.node c.loop-node.invariant c.index-in-loop-node.result.now c.loop-node-test.true (node_read c.args.nodes.now c.loop-node.node c.index-in-loop-node.result.now (list_within c.args.nodes.now c.loop-node.node step.there) c.index-in-loop-node.ensures) c.if-item-number.false

pub returns-clause-none : goal.returns-clause-none
returns-clause-none c =
    passed_all (slice_get c.args.nodes.now.items) (vec_len c.args.nodes.now) c.args.chain c.args.number c.loop-node.before c.loop-node.node c.loop-node.invariant c.loop-node-test.false
