use Rattle.std.proofs.Common.{◌≢◌, ◌∙◌, All, ap, arith, slice_get, subst, sym, vec_len}
use Rattle.evt_types.specs.declared.event.Numbered.{Numbered}
use Rattle.parked_queue.specs.Lists.{has_number, list_at, with_list}
use Rattle.parked_queue.proofs.Changes.{before_there, chain_here, events_here, store_later, total_later, view_later}
use Rattle.parked_queue.proofs.Nodes.{list_within}
use Rattle.parked_queue.proofs.Without.{list_same, none_out}
use Rattle.parked_queue.proofs.waiting.WaitingLists.take_later.Goals as goal

pub node_before-requires-clause-chain : goal.node_before-requires-clause-chain
node_before-requires-clause-chain c =
    record {
      owner = c.self.invariant.chains.owner;
      k = _;
      is = chain_here c.self.inside.nodes.items (vec_len c.self.inside.nodes) c.self.inside.free c.self.inside.chains.items c.self.inside.room c.args.self.now c.self.view_is c.self.invariant c.args.list c.requires.list c.index.result.now c.index.ensures;
    }

pub node_before-requires-clause-other : goal.node_before-requires-clause-other
node_before-requires-clause-other c =
    ap (λ ws. has_number c.args.number (slice_get ws 0)) (events_here c.self.inside.nodes.items (vec_len c.self.inside.nodes) c.self.inside.free c.self.inside.chains.items c.self.inside.room c.args.self.now c.self.view_is c.self.invariant c.args.list c.requires.list c.index.result.now c.index.ensures)
    ∙ c.requires.other

pub skip-node-requires-clause-node : goal.skip-node-requires-clause-node
skip-node-requires-clause-node c =
    list_within c.self.inside.nodes c.in-Some.before
    (before_there c.self.inside.nodes.items (vec_len c.self.inside.nodes) c.self.inside.free c.self.inside.chains.items c.self.inside.room c.args.self.now c.self.view_is c.self.invariant c.args.list c.requires.list c.index.result.now c.index.ensures c.self.inside.nodes.items c.self.inside.nodes.items 0 c.args.number c.in-Some.before 0 0 c.in-Some.ensures.found).0

pub skip-node-requires-clause-behind : goal.skip-node-requires-clause-behind
skip-node-requires-clause-behind c =
    list_within c.self.inside.nodes _
    (before_there c.self.inside.nodes.items (vec_len c.self.inside.nodes) c.self.inside.free c.self.inside.chains.items c.self.inside.room c.args.self.now c.self.view_is c.self.invariant c.args.list c.requires.list c.index.result.now c.index.ensures c.self.inside.nodes.items c.self.inside.nodes.items 0 c.args.number c.in-Some.before 0 0 c.in-Some.ensures.found).1

pub release-requires : goal.release-requires
release-requires c =
    let behind = list_within c.self.inside.nodes _
    (before_there c.self.inside.nodes.items (vec_len c.self.inside.nodes) c.self.inside.free c.self.inside.chains.items c.self.inside.room c.args.self.now c.self.view_is c.self.invariant c.args.list c.requires.list c.index.result.now c.index.ensures c.self.inside.nodes.items c.self.inside.nodes.items 0 c.args.number c.in-Some.before 0 0 c.in-Some.ensures.found).1 in
    omega (arith, behind, c.skip-node.ensures.skipped, c.skip-node.ensures.count)

pub invariant_of-self : goal.invariant_of-self
invariant_of-self c =
    store_later c.self.inside.nodes.items (vec_len c.self.inside.nodes) c.self.inside.free c.self.inside.chains.items c.self.inside.room c.args.self.now c.self.view_is c.self.invariant c.args.list c.requires.list c.index.result.now c.index.ensures c.skip-node.new.nodes.items c.release.new.nodes.items (vec_len c.release.new.nodes) c.args.number c.in-Some.before c.skip-node.result c.release.new.free c.in-Some.ensures.found (c.release.ensures.count ∙ c.skip-node.ensures.count) c.skip-node.ensures.skipped c.release.ensures.free c.skip-node.ensures.linked c.release.ensures.linked c.requires.rising

pub returns-in-Some-clause-value : goal.returns-in-Some-clause-value
returns-in-Some-clause-value c =
    view_later c.self.inside.nodes.items (vec_len c.self.inside.nodes) c.self.inside.free c.self.inside.chains.items c.self.inside.room c.args.self.now c.self.view_is c.self.invariant c.args.list c.requires.list c.index.result.now c.index.ensures c.skip-node.new.nodes.items c.release.new.nodes.items (vec_len c.release.new.nodes) c.args.number c.in-Some.before c.skip-node.result c.release.new.free c.in-Some.ensures.found (c.release.ensures.count ∙ c.skip-node.ensures.count) c.skip-node.ensures.skipped c.release.ensures.free c.skip-node.ensures.linked c.release.ensures.linked c.requires.rising

pub returns-in-Some-clause-fewer : goal.returns-in-Some-clause-fewer
returns-in-Some-clause-fewer c found =
    total_later c.self.inside.nodes.items (vec_len c.self.inside.nodes) c.self.inside.free c.self.inside.chains.items c.self.inside.room c.args.self.now c.self.view_is c.self.invariant c.args.list c.requires.list c.index.result.now c.index.ensures c.skip-node.new.nodes.items c.release.new.nodes.items (vec_len c.release.new.nodes) c.args.number c.in-Some.before c.skip-node.result c.release.new.free c.in-Some.ensures.found (c.release.ensures.count ∙ c.skip-node.ensures.count) c.skip-node.ensures.skipped c.release.ensures.free c.skip-node.ensures.linked c.release.ensures.linked c.requires.rising

pub returns-in-None-clause-value : goal.returns-in-None-clause-value
returns-in-None-clause-value c =
    let here = events_here c.self.inside.nodes.items (vec_len c.self.inside.nodes) c.self.inside.free c.self.inside.chains.items c.self.inside.room c.args.self.now c.self.view_is c.self.invariant c.args.list c.requires.list c.index.result.now c.index.ensures in
    sym (ap (with_list c.args.self.now c.args.list) (none_out c.args.number (list_at c.args.self.now c.args.list) (subst (All (λ (w : Numbered). w.number ≢ c.args.number)) here c.in-None.ensures.none)) ∙ list_same c.args.self.now c.args.list)
