use Rattle.std.proofs.Common.{List, ap, slice_get, sym, vec_len}
use Rattle.evt_types.specs.declared.event.Numbered.{Numbered}
use Rattle.parked_queue.proofs.Changes.{chain_here, first_here, none_here}
use Rattle.parked_queue.proofs.Nodes.{list_within, node_read}
use Rattle.parked_queue.proofs.Walks.{first_next}
use Rattle.parked_queue.proofs.waiting.WaitingLists.head.Goals as goal

pub returns-then-chain : goal.returns-then-chain
returns-then-chain c =
    let none = none_here c.self.inside.nodes.items (vec_len c.self.inside.nodes) c.self.inside.free c.self.inside.chains.items c.self.inside.room c.args.self.now c.self.view_is c.self.invariant c.args.list c.requires c.index-chain.result.now c.index-chain.ensures c.if-chain.true in
    sym (ap (λ (ws : List Numbered). slice_get ws 0) none)

pub index-requires : goal.index-requires
index-requires c =
    let here = chain_here c.self.inside.nodes.items (vec_len c.self.inside.nodes) c.self.inside.free c.self.inside.chains.items c.self.inside.room c.args.self.now c.self.view_is c.self.invariant c.args.list c.requires c.index-chain.result.now c.index-chain.ensures in
    list_within c.self.inside.nodes c.index-chain.result.now.first
    (first_next (slice_get c.self.inside.nodes.items) c.self.invariant.chains.owner _ (vec_len c.self.inside.nodes) c.index-chain.result.now here c.if-chain.false).there

pub returns : goal.returns
returns c =
    let here = chain_here c.self.inside.nodes.items (vec_len c.self.inside.nodes) c.self.inside.free c.self.inside.chains.items c.self.inside.room c.args.self.now c.self.view_is c.self.invariant c.args.list c.requires c.index-chain.result.now c.index-chain.ensures in
    let within = list_within c.self.inside.nodes c.index-chain.result.now.first
    (first_next (slice_get c.self.inside.nodes.items) c.self.invariant.chains.owner _ (vec_len c.self.inside.nodes) c.index-chain.result.now here c.if-chain.false).there in
    first_here c.self.inside.nodes.items (vec_len c.self.inside.nodes) c.self.inside.free c.self.inside.chains.items c.self.inside.room c.args.self.now c.self.view_is c.self.invariant c.args.list c.requires c.index-chain.result.now c.index-chain.ensures c.index.result.now c.if-chain.false
    (node_read c.self.inside.nodes c.index-chain.result.now.first c.index.result.now within c.index.ensures)
