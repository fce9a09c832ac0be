use Rattle.std.proofs.Common.{◌≡◌, ◌+◌, ◌<◌, Option, Some, arith, drop, length, slice_get, subst, vec_len}
use Rattle.parked_queue.specs.Chains.{next_of, path_of}
use Rattle.parked_queue.specs.declared.chain.Node.{Node}
use Rattle.parked_queue.proofs.Nodes.{list_within, node_read}
use Rattle.parked_queue.proofs.Walks.{IsLeft, left_at, left_more, left_nth, left_whole}
use Rattle.parked_queue.proofs.chain.node_behind.Goals as goal

pub loop-init : goal.loop-init
loop-init c = left_whole (slice_get c.args.nodes.now.items) c.requires.chain.owner c.requires.chain.k (vec_len c.args.nodes.now) c.args.chain c.requires.chain.is

pub index-requires : goal.index-requires
index-requires c =
    let at = slice_get c.args.nodes.now.items in
    let step = left_at at c.args.chain.spare c.loop.node c.loop.counter (path_of at (vec_len c.args.nodes.now) c.args.chain) c.loop.invariant (omega (arith, c.loop-test.true, c.requires.some)) in
    list_within c.args.nodes.now c.loop.node step.there

pub loop-preserved : goal.loop-preserved
loop-preserved c =
    let at = slice_get c.args.nodes.now.items in
    let is = path_of at (vec_len c.args.nodes.now) c.args.chain in
    let more : c.loop.counter < length is = omega (arith, c.loop-test.true, c.requires.some) in
    let step = left_at at c.args.chain.spare c.loop.node c.loop.counter is c.loop.invariant more in
    let found = node_read c.args.nodes.now c.loop.node c.index.result.now (list_within c.args.nodes.now c.loop.node step.there) c.index.ensures in
    subst (λ (o : Option Node). IsLeft at c.args.chain.spare (next_of o) (drop (c.loop.counter + 1) is)) found
    (left_more at c.args.chain.spare c.loop.node c.loop.counter is c.loop.invariant more)

pub returns : goal.returns
returns c =
    let at = slice_get c.args.nodes.now.items in
    let is = path_of at (vec_len c.args.nodes.now) c.args.chain in
    let whole : c.loop.counter ≡ c.args.count = omega (arith, c.loop-test.false, c.loop.auto.counter-end) in
    subst (λ n. slice_get is n ≡ Some c.loop.node) whole
    (left_nth at c.args.chain.spare c.loop.node c.loop.counter is c.loop.invariant (omega (arith, whole, c.requires.some)))
