use Rattle.std.proofs.Common.{refl, slice_get, vec_len}
use Rattle.parked_queue.proofs.Changes.{chain_here, differs_here, store_gone, view_gone}
use Rattle.parked_queue.proofs.Nodes.{list_within}
use Rattle.parked_queue.proofs.Walks.{first_next}
use Rattle.parked_queue.proofs.waiting.WaitingLists.drop_first.Goals as goal

pub release-chain-requires : goal.release-chain-requires
release-chain-requires c =
    let here = chain_here c.self.inside.nodes.items (vec_len c.self.inside.nodes) c.self.inside.free c.self.inside.chains.items c.self.inside.room c.args.self.now c.self.view_is c.self.invariant c.args.list c.requires.list c.index_mut-chain.result.now c.index_mut-chain.ensures.value in
    let differs = differs_here c.self.inside.nodes.items (vec_len c.self.inside.nodes) c.self.inside.free c.self.inside.chains.items c.self.inside.room c.args.self.now c.self.view_is c.self.invariant c.args.list c.requires.list c.index_mut-chain.result.now c.index_mut-chain.ensures.value c.requires.some in
    list_within c.self.inside.nodes c.index_mut-chain.result.now.first
    (first_next (slice_get c.self.inside.nodes.items) c.self.invariant.chains.owner _ (vec_len c.self.inside.nodes) c.index_mut-chain.result.now here differs).there

pub invariant_of-self : goal.invariant_of-self
invariant_of-self c =
    store_gone c.self.inside.nodes.items (vec_len c.self.inside.nodes) c.self.inside.free c.self.inside.chains.items c.self.inside.room c.args.self.now c.self.view_is c.self.invariant c.args.list c.requires.list c.index_mut-chain.result.now c.index_mut-chain.ensures.value c.release-chain.new.nodes.items (vec_len c.release-chain.new.nodes) c.release-chain.result c.release-chain.new.free (record { first = c.release-chain.result; spare = c.index_mut-chain.result.now.spare }) c.release-chain.ensures.count c.requires.some c.release-chain.ensures.next c.release-chain.ensures.free c.release-chain.ensures.linked refl

pub returns : goal.returns
returns c =
    view_gone c.self.inside.nodes.items (vec_len c.self.inside.nodes) c.self.inside.free c.self.inside.chains.items c.self.inside.room c.args.self.now c.self.view_is c.self.invariant c.args.list c.requires.list c.index_mut-chain.result.now c.index_mut-chain.ensures.value c.release-chain.new.nodes.items (vec_len c.release-chain.new.nodes) c.release-chain.result c.release-chain.new.free (record { first = c.release-chain.result; spare = c.index_mut-chain.result.now.spare }) c.release-chain.ensures.count c.requires.some c.release-chain.ensures.next c.release-chain.ensures.free c.release-chain.ensures.linked refl
