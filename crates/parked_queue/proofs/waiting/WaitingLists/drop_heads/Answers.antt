use Rattle.std.proofs.Common.{◌≡◌, ◌+◌, ◌-◌, ◌∙◌, ap, arith, drop, length, refl, slice_get, vec_len}
use Rattle.parked_queue.specs.Lists.{list_at, with_list}
use Rattle.parked_queue.proofs.Changes.{chain_here, events_here, last_there, store_row_gone, view_row_gone}
use Rattle.parked_queue.proofs.Nodes.{list_within}
use Rattle.parked_queue.proofs.Walks.{length_events}
use Rattle.parked_queue.proofs.waiting.WaitingLists.drop_heads.Goals as goal

pub node_behind-last-requires-clause-chain : goal.node_behind-last-requires-clause-chain
node_behind-last-requires-clause-chain c =
    record {
      owner = c.self.invariant.chains.owner;
      k = _;
      is = chain_here c.self.inside.nodes.items (vec_len c.self.inside.nodes) c.self.inside.free c.self.inside.chains.items c.self.inside.room c.args.self.now c.self.view_is c.self.invariant c.args.list c.requires.list c.index_mut-chain.result.now c.index_mut-chain.ensures.value;
    }

pub node_behind-last-requires-clause-some : goal.node_behind-last-requires-clause-some
node_behind-last-requires-clause-some c =
    let here = chain_here c.self.inside.nodes.items (vec_len c.self.inside.nodes) c.self.inside.free c.self.inside.chains.items c.self.inside.room c.args.self.now c.self.view_is c.self.invariant c.args.list c.requires.list c.index_mut-chain.result.now c.index_mut-chain.ensures.value in
    let events = events_here c.self.inside.nodes.items (vec_len c.self.inside.nodes) c.self.inside.free c.self.inside.chains.items c.self.inside.room c.args.self.now c.self.view_is c.self.invariant c.args.list c.requires.list c.index_mut-chain.result.now c.index_mut-chain.ensures.value in
    let count = length_events (slice_get c.self.inside.nodes.items) c.self.invariant.chains.owner _ (vec_len c.self.inside.nodes) c.index_mut-chain.result.now here in
    omega (arith, c.requires.some, c.if-count-eq0.false, count, ap length events)

pub release-chain-requires : goal.release-chain-requires
release-chain-requires c =
    list_within c.self.inside.nodes c.node_behind-last.result
    (last_there c.self.inside.nodes.items (vec_len c.self.inside.nodes) c.self.inside.free c.self.inside.chains.items c.self.inside.room c.args.self.now c.self.view_is c.self.invariant c.args.list c.requires.list c.index_mut-chain.result.now c.index_mut-chain.ensures.value (c.args.count - 1) c.node_behind-last.result c.node_behind-last.ensures)

pub invariant_of-self : goal.invariant_of-self
invariant_of-self c =
    store_row_gone c.self.inside.nodes.items (vec_len c.self.inside.nodes) c.self.inside.free c.self.inside.chains.items c.self.inside.room c.args.self.now c.self.view_is c.self.invariant c.args.list c.requires.list c.index_mut-chain.result.now c.index_mut-chain.ensures.value (c.args.count - 1) c.node_behind-last.result c.node_behind-last.ensures c.release-chain.new.nodes.items (vec_len c.release-chain.new.nodes) c.release-chain.result c.index_mut-chain.result.now.first (record { first = c.release-chain.result; spare = c.index_mut-chain.result.now.spare }) c.release-chain.ensures.count c.release-chain.ensures.next refl c.release-chain.ensures.linked refl

pub returns : goal.returns
returns c =
    let all : c.args.count - 1 + 1 ≡ c.args.count = omega (arith, c.if-count-eq0.false) in
    view_row_gone c.self.inside.nodes.items (vec_len c.self.inside.nodes) c.self.inside.free c.self.inside.chains.items c.self.inside.room c.args.self.now c.self.view_is c.self.invariant c.args.list c.requires.list c.index_mut-chain.result.now c.index_mut-chain.ensures.value (c.args.count - 1) c.node_behind-last.result c.node_behind-last.ensures c.release-chain.new.nodes.items (vec_len c.release-chain.new.nodes) c.release-chain.result c.index_mut-chain.result.now.first (record { first = c.release-chain.result; spare = c.index_mut-chain.result.now.spare }) c.release-chain.ensures.count c.release-chain.ensures.next refl c.release-chain.ensures.linked refl
    ∙ ap (λ n. with_list c.args.self.now c.args.list (drop n (list_at c.args.self.now c.args.list))) all
