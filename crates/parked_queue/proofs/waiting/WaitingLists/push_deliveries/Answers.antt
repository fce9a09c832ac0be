use Rattle.std.proofs.Common.{◌∙◌, ◌++◌, ◌∷◌, [], ℕ, List, ap, append-nil, arith, length, map, refl, slice_get, sym, vec_len}
use Rattle.evt_types.specs.declared.event.Delivery.{Delivery}
use Rattle.evt_types.specs.declared.event.Numbered.{Numbered}
use Rattle.parked_queue.specs.Chains.{items, path_of}
use Rattle.parked_queue.specs.Lists.{named_delivery}
use Rattle.parked_queue.proofs.Changes.{chain_here, events_here}
use Rattle.parked_queue.proofs.Nodes.{list_within}
use Rattle.parked_queue.proofs.Walks.{deliveries_more, left_next, left_none, left_read, left_whole, length_events}
use Rattle.parked_queue.proofs.waiting.WaitingLists.push_deliveries.Goals as goal

pub loop-cursor-init : goal.loop-cursor-init
loop-cursor-init c =
    let at = slice_get c.self.inside.nodes.items in
    let here = chain_here c.self.inside.nodes.items (vec_len c.self.inside.nodes) c.self.inside.free c.self.inside.chains.items c.self.inside.room c.args.self.now c.self.view_is c.self.invariant c.args.list c.requires.list c.index-chain.result.now c.index-chain.ensures in
    let events = events_here c.self.inside.nodes.items (vec_len c.self.inside.nodes) c.self.inside.free c.self.inside.chains.items c.self.inside.room c.args.self.now c.self.view_is c.self.invariant c.args.list c.requires.list c.index-chain.result.now c.index-chain.ensures in
    let count = length_events at c.self.invariant.chains.owner _ (vec_len c.self.inside.nodes) c.index-chain.result.now here in
    record {
      rest = path_of at (vec_len c.self.inside.nodes) c.index-chain.result.now;
      left = left_whole at c.self.invariant.chains.owner _ (vec_len c.self.inside.nodes) c.index-chain.result.now here;
      deliveries = ap (λ (ws : List Numbered). c.args.into.now.items ++ map named_delivery ws) events;
      room = omega (arith, count, ap length events, c.requires.room);
      capacity = refl;
    }

pub index-requires : goal.index-requires
index-requires c =
    let next = left_next (slice_get c.self.inside.nodes.items) c.index-chain.result.now.spare c.loop-cursor.cursor c.loop-cursor.invariant.rest c.loop-cursor.invariant.left c.loop-cursor-test.true in
    list_within c.self.inside.nodes c.loop-cursor.cursor next.there

pub push_reserved-requires : goal.push_reserved-requires
push_reserved-requires c =
    let next = left_next (slice_get c.self.inside.nodes.items) c.index-chain.result.now.spare c.loop-cursor.cursor c.loop-cursor.invariant.rest c.loop-cursor.invariant.left c.loop-cursor-test.true in
    omega (arith, ap length next.whole, c.loop-cursor.invariant.room)

pub loop-cursor-smaller : goal.loop-cursor-smaller
loop-cursor-smaller c =
    let next = left_next (slice_get c.self.inside.nodes.items) c.index-chain.result.now.spare c.loop-cursor.cursor c.loop-cursor.invariant.rest c.loop-cursor.invariant.left c.loop-cursor-test.true in
    omega (arith, ap length next.whole, c.loop-cursor.invariant.room, c.push_reserved.ensures.len, c.push_reserved.ensures.capacity)

pub loop-cursor-preserved : goal.loop-cursor-preserved
loop-cursor-preserved c =
    let next = left_read c.self.inside.nodes c.index-chain.result.now.spare c.loop-cursor.cursor c.loop-cursor.invariant.rest c.loop-cursor.invariant.left c.loop-cursor-test.true c.index.result.now c.index.ensures in
    record {
      rest = next.rest;
      left = next.left;
      deliveries =
          deliveries_more (slice_get c.self.inside.nodes.items) c.loop-cursor.cursor c.index.result.now c.loop-cursor.invariant.rest next.rest c.loop-cursor.into.items c.push_reserved.new.self.items next.whole next.found (c.push_reserved.ensures.items ∙ ap (λ (d : Delivery). c.loop-cursor.into.items ++ d ∷ []) c.new.ensures)
          ∙ c.loop-cursor.invariant.deliveries;
      room = omega (arith, ap length next.whole, c.loop-cursor.invariant.room, c.push_reserved.ensures.len, c.push_reserved.ensures.capacity);
      capacity = c.push_reserved.ensures.capacity ∙ c.loop-cursor.invariant.capacity;
    }

pub returns-clause-deliveries : goal.returns-clause-deliveries
returns-clause-deliveries c =
    let none = left_none (slice_get c.self.inside.nodes.items) c.index-chain.result.now.spare c.loop-cursor.cursor c.loop-cursor.invariant.rest c.loop-cursor.invariant.left c.loop-cursor-test.false in
    sym
    (ap (λ (is : List ℕ). c.loop-cursor.into.items ++ map named_delivery (items (slice_get c.self.inside.nodes.items) is)) none
    ∙ append-nil c.loop-cursor.into.items)
    ∙ c.loop-cursor.invariant.deliveries

pub returns-clause-room : goal.returns-clause-room
returns-clause-room c = c.loop-cursor.invariant.capacity
