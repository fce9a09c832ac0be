use Rattle.std.proofs.Common.{◌∙◌, ◌+◌, ◌++◌, ◌∷◌, [], ℕ, List, Option, ap, append-nil, append_assoc, arith, length, map, refl, slice_get, subst, sym, vec_len}
use Rattle.std.proofs.lemmas.List.{length-append, length-map, length_push, map_push}
use Rattle.evt_types.specs.declared.event.Delivery.{Delivery}
use Rattle.evt_types.specs.declared.event.Numbered.{Numbered}
use Rattle.parked_queue.specs.Chains.{items, next_of, path_of}
use Rattle.parked_queue.specs.declared.chain.Node.{Node}
use Rattle.parked_queue.specs.Lists.{named_delivery}
use Rattle.parked_queue.proofs.Changes.{chain_here, events_here}
use Rattle.parked_queue.proofs.Nodes.{node_read, list_within}
use Rattle.parked_queue.proofs.Walks.{IsLeft, item_next, left_next, left_whole}
use Rattle.parked_queue.proofs.waiting.WaitingLists.push_heads.Goals as goal

pub loop-init : goal.loop-init
loop-init c =
    let at = slice_get c.self.inside.nodes.items in
    let here = chain_here c.self.inside.nodes.items (vec_len c.self.inside.nodes) c.self.inside.free c.self.inside.chains.items c.self.inside.room c.args.self.now c.self.view_is c.self.invariant c.args.list c.requires.list c.index-chain.result.now c.index-chain.ensures in
    let events = events_here c.self.inside.nodes.items (vec_len c.self.inside.nodes) c.self.inside.free c.self.inside.chains.items c.self.inside.room c.args.self.now c.self.view_is c.self.invariant c.args.list c.requires.list c.index-chain.result.now c.index-chain.ensures in
    record {
      heads = [];
      rest = path_of at (vec_len c.self.inside.nodes) c.index-chain.result.now;
      left = left_whole at c.self.invariant.chains.owner _ (vec_len c.self.inside.nodes) c.index-chain.result.now here;
      whole = sym events;
      longer = sym (append-nil c.args.into.now.items);
      count = refl;
    }

pub index-requires : goal.index-requires
index-requires c =
    let next = left_next (slice_get c.self.inside.nodes.items) c.index-chain.result.now.spare c.loop.cursor c.loop.invariant.rest c.loop.invariant.left c.if-cursor-chain.false in
    list_within c.self.inside.nodes c.loop.cursor next.there

pub push-requires : goal.push-requires
push-requires c =
    let was = c.loop.invariant in
    omega (arith, c.requires.room, c.loop-test.true, was.count, ap length was.longer, length-append c.args.into.now.items (map named_delivery was.heads), length-map was.heads named_delivery)

pub loop-preserved : goal.loop-preserved
loop-preserved c =
    let at = slice_get c.self.inside.nodes.items in
    let was = c.loop.invariant in
    let m : Node = c.index.result.now in
    let next = left_next at c.index-chain.result.now.spare c.loop.cursor was.rest was.left c.if-cursor-chain.false in
    let found = node_read c.self.inside.nodes c.loop.cursor m (list_within c.self.inside.nodes c.loop.cursor next.there) c.index.ensures in
    record {
      heads = was.heads ++ m.item ∷ [];
      rest = next.rest;
      left = subst (λ (o : Option Node). IsLeft at c.index-chain.result.now.spare (next_of o) next.rest) found next.left;
      whole = was.whole ∙ (ap (λ (is : List ℕ). was.heads ++ items at is) next.whole ∙ (ap (λ (ws : List Numbered). was.heads ++ ws) (item_next at c.loop.cursor m next.rest found) ∙ sym (append_assoc was.heads (m.item ∷ []) (items at next.rest))));
      longer =
          c.push.ensures.items ∙ (ap (λ (d : Delivery). c.loop.into.items ++ d ∷ []) c.new.ensures
          ∙ (ap (λ (ds : List Delivery). ds ++ named_delivery m.item ∷ []) was.longer
          ∙ (append_assoc c.args.into.now.items (map named_delivery was.heads) (named_delivery m.item ∷ [])
          ∙ ap (λ (ds : List Delivery). c.args.into.now.items ++ ds) (sym (map_push named_delivery was.heads m.item)))));
      count = length_push was.heads m.item ∙ ap (λ n. n + 1) was.count;
    }

pub returns-then-cursor-chain : goal.returns-then-cursor-chain
returns-then-cursor-chain c =
    let was = c.loop.invariant in
    (was.heads, items (slice_get c.self.inside.nodes.items) was.rest, was.whole, was.longer, omega (arith, was.count, c.loop-test.true))

pub returns : goal.returns
returns c =
    let was = c.loop.invariant in
    (was.heads, items (slice_get c.self.inside.nodes.items) was.rest, was.whole, was.longer, omega (arith, was.count))
