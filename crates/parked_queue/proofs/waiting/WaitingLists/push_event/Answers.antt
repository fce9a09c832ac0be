use Rattle.std.proofs.Common.{◌≡◌, ◌≢◌, ◌∙◌, ap, arith, length, slice_get, sym, vec_len, ⊎_elim}
use Rattle.std.proofs.lemmas.Bool.{cases_eq, eq-eqb, ne_eqb}
use Rattle.parked_queue.specs.Lists.{list_at, numbered}
use Rattle.parked_queue.proofs.Changes.{chain_here, none_here, some_here, store_come, view_come}
use Rattle.parked_queue.proofs.Nodes.{list_within}
use Rattle.parked_queue.proofs.Walks.{spare_there}
use Rattle.parked_queue.proofs.waiting.WaitingLists.push_event.Goals as goal

pub append-requires : goal.append-requires
append-requires c =
    let here = chain_here c.self.inside.nodes.items (vec_len c.self.inside.nodes) c.self.inside.free c.self.inside.chains.items c.self.inside.room c.args.self.now c.self.view_is c.self.invariant c.args.list c.requires.list c.index_mut.result.now c.index_mut.ensures.value in
    list_within c.self.inside.nodes c.index_mut.result.now.spare
    (spare_there (slice_get c.self.inside.nodes.items) c.self.invariant.chains.owner _ (vec_len c.self.inside.nodes) c.index_mut.result.now here)

pub invariant_of-self : goal.invariant_of-self
invariant_of-self c =
    store_come c.self.inside.nodes.items (vec_len c.self.inside.nodes) c.self.inside.free c.self.inside.chains.items c.self.inside.room c.args.self.now c.self.view_is c.self.invariant c.args.list c.requires.list c.index_mut.result.now c.index_mut.ensures.value c.append.new.nodes.items (vec_len c.append.new.nodes) c.take_node-spare.result c.take_node-spare.new.free (numbered c.args.number c.args.event.now) c.append.new.chain c.append.ensures.count c.requires.room c.take_node-spare.ensures.node c.take_node-spare.ensures.rest c.append.ensures.filled c.append.ensures.chain

pub returns-clause-only : goal.returns-clause-only
returns-clause-only c =
    c.append.ensures.only
    ∙ ⊎_elim
    (λ (e : c.index_mut.result.now.first ≡ c.index_mut.result.now.spare).
    let none = none_here c.self.inside.nodes.items (vec_len c.self.inside.nodes) c.self.inside.free c.self.inside.chains.items c.self.inside.room c.args.self.now c.self.view_is c.self.invariant c.args.list c.requires.list c.index_mut.result.now c.index_mut.ensures.value e in
    eq-eqb c.index_mut.result.now.first c.index_mut.result.now.spare e
    ∙ sym (eq-eqb (length (list_at c.args.self.now c.args.list)) 0 (ap length none)))
    (λ (ne : c.index_mut.result.now.first ≢ c.index_mut.result.now.spare).
    let some = some_here c.self.inside.nodes.items (vec_len c.self.inside.nodes) c.self.inside.free c.self.inside.chains.items c.self.inside.room c.args.self.now c.self.view_is c.self.invariant c.args.list c.requires.list c.index_mut.result.now c.index_mut.ensures.value ne in
    ne_eqb c.index_mut.result.now.first c.index_mut.result.now.spare ne
    ∙ sym (ne_eqb (length (list_at c.args.self.now c.args.list)) 0 (omega arith)))
    (cases_eq c.index_mut.result.now.first c.index_mut.result.now.spare)

pub returns-clause-value : goal.returns-clause-value
returns-clause-value c =
    view_come c.self.inside.nodes.items (vec_len c.self.inside.nodes) c.self.inside.free c.self.inside.chains.items c.self.inside.room c.args.self.now c.self.view_is c.self.invariant c.args.list c.requires.list c.index_mut.result.now c.index_mut.ensures.value c.append.new.nodes.items (vec_len c.append.new.nodes) c.take_node-spare.result c.take_node-spare.new.free (numbered c.args.number c.args.event.now) c.append.new.chain c.append.ensures.count c.requires.room c.take_node-spare.ensures.node c.take_node-spare.ensures.rest c.append.ensures.filled c.append.ensures.chain
