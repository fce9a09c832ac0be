use Rattle.std.proofs.Common.{◌+◌, ◌∙◌, arith, length, slice_get, subst, sym, take, vec_len}
use Rattle.std.proofs.lemmas.List.{length-take-le, take_all}
use Rattle.parked_queue.specs.Lists.{numbered, numbered_from}
use Rattle.parked_queue.specs.Store.{HasCome}
use Rattle.parked_queue.proofs.Nodes.{list_within}
use Rattle.parked_queue.proofs.Rows.{come_more, free_is, length_numbered, numbered_next, spare_is}
use Rattle.parked_queue.proofs.chain.append_row.Goals as goal

pub take_node-spare-requires : goal.take_node-spare-requires
take_node-spare-requires c =
    let s = c.requires.store in
    list_within c.loop-index.nodes c.loop-index.free (free_is _ _ _ _ _ _ _ _ _ s.chains s.room s.list s.is (c.loop-index.invariant.0 s.chains s.room s.list s.is))

pub append-requires : goal.append-requires
append-requires c =
    let s = c.requires.store in
    list_within c.loop-index.nodes c.loop-index.chain.spare (spare_is _ _ _ _ _ _ _ _ _ s.chains s.room s.list s.is (c.loop-index.invariant.0 s.chains s.room s.list s.is))

pub loop-index-preserved : goal.loop-index-preserved
loop-index-preserved c =
    let i = c.loop-index.index in
    let done = take i c.args.replies.now in
    let long = length_numbered c.args.number done ∙ length-take-le i c.args.replies.now (omega (arith, c.loop-index-test.true)) in (
      λ cs room k is.
          subst (λ ws. HasCome (slice_get c.args.nodes.now.items) (slice_get c.append.new.nodes.items) (vec_len c.args.nodes.now) c.take_node-spare.new.free c.append.new.chain ws cs room k)
          (sym (numbered_next c.args.number i c.args.replies.now c.index-replies-index.result (omega (arith, c.loop-index-test.true)) c.index-replies-index.is))
          (come_more c.args.nodes.now.items c.loop-index.nodes.items (vec_len c.args.nodes.now) c.args.free.now c.loop-index.free c.args.chain.now c.loop-index.chain (numbered_from c.args.number done) (length c.args.replies.now) cs room k is (c.loop-index.invariant.0 cs room k is)
          c.append.new.nodes.items c.take_node-spare.result c.take_node-spare.new.free (numbered (c.args.number + i) c.index-replies-index.result.event) c.append.new.chain (omega (arith, long, c.loop-index-test.true)) c.take_node-spare.ensures.node c.take_node-spare.ensures.rest c.append.ensures.filled c.append.ensures.chain),
      c.append.ensures.count ∙ c.loop-index.invariant.1,
    )

pub returns-clause-come : goal.returns-clause-come
returns-clause-come c cs room k is =
    subst (λ rs. HasCome (slice_get c.args.nodes.now.items) (slice_get c.loop-index.nodes.items) (vec_len c.args.nodes.now) c.loop-index.free c.loop-index.chain (numbered_from c.args.number rs) cs room k)
    (take_all c.loop-index.index c.args.replies.now (omega (arith, c.loop-index-test.false))) (c.loop-index.invariant.0 cs room k is)
