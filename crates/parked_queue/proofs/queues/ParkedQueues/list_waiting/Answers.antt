use Rattle.std.proofs.Common.{◌≡◌, ◌+◌, ◌++◌, ◌<◌, ◌≤◌, ◌∙◌, ap, arith, length, map, rules}
use Rattle.std.proofs.lemmas.List.Sorted.{IsNonDecreasingBy-from_sort_by_key}
use Rattle.parked_queue.specs.Lists.{named_delivery, list_at}
use Rattle.parked_queue.specs.Parkings.{parted_by}
use Rattle.parked_queue.specs.Parted.{list_count}
use Rattle.parked_queue.specs.Parts.{parts_of}
use Rattle.parked_queue.specs.Waits.{Waits, waits_at}
use Rattle.parked_queue.proofs.Calls.{list_fits, list_is, list_there}
use Rattle.parked_queue.proofs.Deliveries.{deliveries_length, deliveries_more, listed, number_of, parts_fit}
use Rattle.parked_queue.proofs.Named.{named_as}
use Rattle.parked_queue.proofs.Parkings.{asked}
use Rattle.parked_queue.proofs.Seen.{names_here}
use Rattle.parked_queue.proofs.queues.ParkedQueues.list_waiting.Goals as goal

pub overflow_add-list-end : goal.overflow_add-list-end
overflow_add-list-end c =
    let a = asked c.self.inside.lists c.self.inside.queues.items c.args.self.now c.args.queue c.self.invariant.parkings c.self.view_is c.requires.there c.index-asked.result.now c.index-asked.ensures in
    let few : c.index-asked.result.now.slots ≤ 64 = a.part.parking.waits.few in
    omega arith

pub overflow_mul-list-end : goal.overflow_mul-list-end
overflow_mul-list-end c =
    let a = asked c.self.inside.lists c.self.inside.queues.items c.args.self.now c.args.queue c.self.invariant.parkings c.self.view_is c.requires.there c.index-asked.result.now c.index-asked.ensures in
    let few : c.index-asked.result.now.slots ≤ 64 = a.part.parking.waits.few in
    omega arith

pub overflow_add-asked : goal.overflow_add-asked
overflow_add-asked c =
    let a = asked c.self.inside.lists c.self.inside.queues.items c.args.self.now c.args.queue c.self.invariant.parkings c.self.view_is c.requires.there c.index-asked.result.now c.index-asked.ensures in
    let lt : c.loop-list.list < list_count c.index-asked.result.now.slots = omega arith in
    let fits = list_fits c.self.inside.lists c.index-asked.result.now a.part c.loop-list.list lt in
    omega arith

pub push_deliveries-requires-clause-list : goal.push_deliveries-requires-clause-list
push_deliveries-requires-clause-list c =
    let a = asked c.self.inside.lists c.self.inside.queues.items c.args.self.now c.args.queue c.self.invariant.parkings c.self.view_is c.requires.there c.index-asked.result.now c.index-asked.ensures in
    let lt : c.loop-list.list < list_count c.index-asked.result.now.slots = omega arith in
    list_there c.self.inside.lists c.index-asked.result.now a.part c.loop-list.list lt

pub push_deliveries-requires-clause-room : goal.push_deliveries-requires-clause-room
push_deliveries-requires-clause-room c =
    let a = asked c.self.inside.lists c.self.inside.queues.items c.args.self.now c.args.queue c.self.invariant.parkings c.self.view_is c.requires.there c.index-asked.result.now c.index-asked.ensures in
    let lt : c.loop-list.list < list_count c.index-asked.result.now.slots = omega arith in
    let same = ap length (list_is c.self.inside.lists c.index-asked.result.now a.part c.loop-list.list lt) in
    let fit = parts_fit (parted_by c.self.inside.lists c.index-asked.result.now) c.loop-list.list a.part.parking.waits lt in
    let long = deliveries_length c.args.into.now.items c.loop-list.into.items (parts_of (parted_by c.self.inside.lists c.index-asked.result.now) c.loop-list.list) c.loop-list.invariant.deliveries in
    let waiting = ap (λ (q : Waits). length q.waiting) a.waits in
    let room = c.loop-list.invariant.room in
    let after = c.loop-list.into.ok.0 in
    let before = c.args.into.now.ok.0 in
    omega (arith, c.requires.room)

pub loop-list-preserved : goal.loop-list-preserved
loop-list-preserved c =
    let a = asked c.self.inside.lists c.self.inside.queues.items c.args.self.now c.args.queue c.self.invariant.parkings c.self.view_is c.requires.there c.index-asked.result.now c.index-asked.ensures in
    let lt : c.loop-list.list < list_count c.index-asked.result.now.slots = omega arith in
    record {
      deliveries =
          deliveries_more (parted_by c.self.inside.lists c.index-asked.result.now) c.loop-list.list c.args.into.now.items c.loop-list.into.items c.push_deliveries.new.into.items (list_at c.self.inside.lists (c.index-asked.result.now.base + c.loop-list.list))
          (list_is c.self.inside.lists c.index-asked.result.now a.part c.loop-list.list lt)
          c.loop-list.invariant.deliveries c.push_deliveries.ensures.deliveries;
      room = c.push_deliveries.ensures.room ∙ c.loop-list.invariant.room;
    }

pub returns-clause-listed : goal.returns-clause-listed
returns-clause-listed c =
    let a = asked c.self.inside.lists c.self.inside.queues.items c.args.self.now c.args.queue c.self.invariant.parkings c.self.view_is c.requires.there c.index-asked.result.now c.index-asked.ensures in
    let all : c.loop-list.list ≡ list_count c.index-asked.result.now.slots = omega (arith, c.loop-list.auto.list-end, c.loop-list-test.false) in
    let start : c.len-start.result ≡ length c.args.into.now.items = omega arith in
    let end : c.loop-list.into.len ≡ length c.loop-list.into.items = omega arith in
    listed (parted_by c.self.inside.lists c.index-asked.result.now) c.deref_mut.result.now c.loop-list.into.items c.args.into.now.items c.sort_unstable_by_key.new.self c.loop-list.into.len c.len-start.result a.part.parking.waits c.deref_mut.ensures.value
    (c.loop-list.invariant.deliveries ∙ ap (λ n. c.args.into.now.items ++ map named_delivery (parts_of (parted_by c.self.inside.lists c.index-asked.result.now) n)) all)
    start end c.sort_unstable_by_key.ensures.permutation (IsNonDecreasingBy-from_sort_by_key number_of c.sort_unstable_by_key.new.self c.sort_unstable_by_key.ensures.sorted (λ a r f k. search rules))
    ∙ ap (λ (q : Waits). c.args.into.now.items ++ map named_delivery q.waiting) a.waits
    ∙ ap (λ ds. c.args.into.now.items ++ ds) (named_as c.args.queue (waits_at c.args.self.now c.args.queue).waiting (names_here _ c.args.self.now c.self.inside.levels.items c.self.inside.busy c.args.queue c.self.invariant.noted c.self.view_is c.requires.there))

pub loop-list-smaller : goal.loop-list-smaller
loop-list-smaller c = omega (arith, c.loop-list-test.true)

pub slice_bounds-sort_unstable_by_key-count : goal.slice_bounds-sort_unstable_by_key-count
slice_bounds-sort_unstable_by_key-count c =
    let long = deliveries_length c.args.into.now.items c.loop-list.into.items (parts_of (parted_by c.self.inside.lists c.index-asked.result.now) c.loop-list.list) c.loop-list.invariant.deliveries in
    omega (arith, ap length c.deref_mut.ensures.value, c.len-start.ensures, c.args.into.now.ok.0)

pub returns-clause-room : goal.returns-clause-room
returns-clause-room c = c.loop-list.invariant.room

pub slice_bounds-sort_unstable_by_key-start : goal.slice_bounds-sort_unstable_by_key-start
slice_bounds-sort_unstable_by_key-start c = slice_bounds-sort_unstable_by_key-count c

pub offset_bounds-deref_mut-start : goal.offset_bounds-deref_mut-start
offset_bounds-deref_mut-start c = omega (arith, slice_bounds-sort_unstable_by_key-count c, c.deref_mut.type_inv.1)

pub slice_bounds-sort_unstable_by_key-end : goal.slice_bounds-sort_unstable_by_key-end
slice_bounds-sort_unstable_by_key-end c = omega arith
