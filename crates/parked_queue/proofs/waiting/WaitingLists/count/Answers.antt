use Rattle.std.proofs.Common.{◌≤◌, ap, arith, length, slice_get, subst, vec_len}
use Rattle.parked_queue.specs.Chains.{path_of}
use Rattle.parked_queue.specs.Lists.{Lists, total_of}
use Rattle.parked_queue.proofs.Changes.{chain_here, events_here}
use Rattle.parked_queue.proofs.Nodes.{list_within}
use Rattle.parked_queue.proofs.Totals.{list_within_total}
use Rattle.parked_queue.proofs.Walks.{left_next, left_none, left_read, left_whole, length_events}
use Rattle.parked_queue.proofs.waiting.WaitingLists.count.Goals as goal

pub loop-cursor-init : goal.loop-cursor-init
loop-cursor-init c =
    let at = slice_get c.self.inside.nodes.items in
    let here = chain_here c.self.inside.nodes.items (vec_len c.self.inside.nodes) c.self.inside.free c.self.inside.chains.items c.self.inside.room c.args.self.now c.self.view_is c.self.invariant c.args.list c.requires c.index-chain.result.now c.index-chain.ensures in
    let events = events_here c.self.inside.nodes.items (vec_len c.self.inside.nodes) c.self.inside.free c.self.inside.chains.items c.self.inside.room c.args.self.now c.self.view_is c.self.invariant c.args.list c.requires c.index-chain.result.now c.index-chain.ensures in
    let count = length_events at c.self.invariant.chains.owner _ (vec_len c.self.inside.nodes) c.index-chain.result.now here in
    record {
      rest = path_of at (vec_len c.self.inside.nodes) c.index-chain.result.now;
      left = left_whole at c.self.invariant.chains.owner _ (vec_len c.self.inside.nodes) c.index-chain.result.now here;
      count = omega (arith, count, ap length events);
    }

pub overflow_add-count : goal.overflow_add-count
overflow_add-count c =
    let next = left_next (slice_get c.self.inside.nodes.items) c.index-chain.result.now.spare c.loop-cursor.cursor c.loop-cursor.invariant.rest c.loop-cursor.invariant.left c.loop-cursor-test.true in
    let within = list_within_total c.args.self.now c.args.list c.requires in
    let total : total_of c.args.self.now ≤ c.self.inside.room = subst (λ (l : Lists). total_of l ≤ c.self.inside.room) c.self.view_is c.self.invariant.within in
    omega (arith, ap length next.whole, c.loop-cursor.invariant.count, c.self.invariant.spacious, c.self.inside.nodes.ok.0)

pub index-requires : goal.index-requires
index-requires c =
    let next = left_next (slice_get c.self.inside.nodes.items) c.index-chain.result.now.spare c.loop-cursor.cursor c.loop-cursor.invariant.rest c.loop-cursor.invariant.left c.loop-cursor-test.true in
    list_within c.self.inside.nodes c.loop-cursor.cursor next.there

pub loop-cursor-smaller : goal.loop-cursor-smaller
loop-cursor-smaller c =
    let next = left_next (slice_get c.self.inside.nodes.items) c.index-chain.result.now.spare c.loop-cursor.cursor c.loop-cursor.invariant.rest c.loop-cursor.invariant.left c.loop-cursor-test.true in
    omega (arith, ap length next.whole, c.loop-cursor.invariant.count)

pub loop-cursor-preserved : goal.loop-cursor-preserved
loop-cursor-preserved c =
    let next = left_read c.self.inside.nodes c.index-chain.result.now.spare c.loop-cursor.cursor c.loop-cursor.invariant.rest c.loop-cursor.invariant.left c.loop-cursor-test.true c.index.result.now c.index.ensures in
    record { rest = next.rest; left = next.left; count = omega (arith, ap length next.whole, c.loop-cursor.invariant.count) }

pub returns : goal.returns
returns c =
    let none = left_none (slice_get c.self.inside.nodes.items) c.index-chain.result.now.spare c.loop-cursor.cursor c.loop-cursor.invariant.rest c.loop-cursor.invariant.left c.loop-cursor-test.false in
    omega (arith, ap length none, c.loop-cursor.invariant.count)
