use Rattle.std.proofs.Common.{◌≡◌, ◌<◌, ◌%◌, ◌++◌, All, List, ap, arith, drop, length, map, rules, set, subst, sym, take, ◌∙◌}
use Rattle.std.proofs.lemmas.List.{length-map, length-take}
use Rattle.std.proofs.lemmas.List.Elements.{All-take}
use Rattle.std.specs.List.{take-map}
use Rattle.evt_types.specs.declared.event.Delivery.{Delivery}
use Rattle.evt_types.specs.declared.event.Numbered.{Numbered}
use Rattle.parked_queue.specs.Lists.{named_delivery}
use Rattle.parked_queue.specs.Rows.{at_level, without_all}
use Rattle.parked_queue.specs.Waits.{IsOnlyOf, Waits, waits_at}
use Rattle.sched_core.proofs.Cores.{queue_there}
use Rattle.order_parts.specs.Orders.{order_at}
use Rattle.order_parts.specs.QueuePins.{pins_at}
use Rattle.sched_core.proofs.Deals.{counts_left, deals_done, lanes_roomy, lanes_there, places_left, unpinned}
use Rattle.sched_core.proofs.GiftRows.{cut_heads, cut_row, heads_only, row_begun, with_parts}
use Rattle.sched_core.specs.Runs.{AreDealtOut}
use Rattle.sched_core.specs.View.{IsCore, view_in}
use Rattle.sched_core.proofs.state.Core.deal_out.Goals as goal
use Rattle.sched_core.proofs.state.Core.deal_out.Goals.{After-as_slice-2}

-- ---- what holds once the run has the events that were dealt

begun : (c : After-as_slice-2) → c.push_heads.new.into.items ≡ map named_delivery c.push_heads.ensures.heads
begun c = row_begun c.args.run.now.items c.push_heads.new.into.items c.push_heads.ensures.heads c.requires.none c.push_heads.ensures.longer_is

row : (c : After-as_slice-2) → c.as_slice-2.result.now ≡ map named_delivery (take c.len.result c.push_heads.ensures.heads)
row c = c.as_slice-2.ensures.value ∙ cut_row c.push_heads.new.into.items c.truncate.new.self.items c.push_heads.ensures.heads c.len.result (begun c) c.truncate.ensures.items

whole : (c : After-as_slice-2) → at_level c.args.level.number (waits_at c.self.inside.queues c.args.queue) ≡ take c.len.result c.push_heads.ensures.heads ++ (drop c.len.result c.push_heads.ensures.heads ++ c.push_heads.ensures.rest)
whole c =
    let heads = c.push_heads.ensures in
    cut_heads (at_level c.args.level.number (waits_at c.self.inside.queues c.args.queue)) heads.heads heads.rest c.len.result heads.whole

-- the core that it leaves, with these queues
done : (c : After-as_slice-2) (qs : List Waits)
    → qs ≡ set c.self.inside.queues c.args.queue (without_all (waits_at c.self.inside.queues c.args.queue) c.as_slice-2.result.now)
    → IsCore (with_parts c.self.inside qs c.deal_row.new.orders c.deal_row.new.pins c.deal_row.new.self)
    × AreDealtOut c.args.queue c.args.bound c.args.among c.args.self.now c.args._skips.now (map named_delivery (take c.len.result c.push_heads.ensures.heads)) c.deal_row.new.to.items
    (view_in (with_parts c.self.inside qs c.deal_row.new.orders c.deal_row.new.pins c.deal_row.new.self))
done c qs queues =
    let a = c.self.inside in
    let q = c.args.queue in
    let heads = c.push_heads.ensures in
    let few = heads.few in
    let count = c.len.result in
    let made = c.deal_row.ensures in
    let dealt : take (length c.deal_row.new.to.items) c.as_slice.result.now ≡ map named_delivery (take count heads.heads) =
    ap (λ n. take n c.as_slice.result.now) (sym c.len.ensures.value) ∙ (ap (take count) (c.as_slice.ensures.value ∙ begun c) ∙ take-map named_delivery count heads.heads)
    in
    deals_done _ q c.args.level.number c.args.bound c.args.among c.below.result c.below.ensures a c.args.self.now c.args._skips.now (λ flow slot is. (search rules) ∙ ap (λ n. flow % n) c.slots-slots.ensures) c.self.invariant c.self.view_is
    c.requires.ports c.requires.counts c.requires.turn c.requires.lanes c.requires.left (take count heads.heads) (drop count heads.heads ++ heads.rest) (whole c)
    (All-take (λ (w : Numbered). w.event.queue ≡ q) count heads.heads heads.named) (omega (arith, few, length-take count heads.heads))
    c.deal_row.new.to.items (order_at c.deal_row.new.orders q) (pins_at c.deal_row.new.pins q) qs c.deal_row.new.orders c.deal_row.new.pins c.deal_row.new.self
    (queues ∙ ap (λ (ds : List Delivery). set a.queues q (without_all (waits_at a.queues q) ds)) (row c)) made.orders made.pins
    (take (length c.deal_row.new.to.items) c.as_slice.result.now) dealt made.dealt

-- ---- its goals

pub deal_row-requires-clause-there : goal.deal_row-requires-clause-there
deal_row-requires-clause-there c =
    lanes_there c.self.inside c.args.self.now c.args._skips.now c.args.queue c.args.among c.self.invariant c.self.view_is c.requires.turn.there c.requires.lanes

pub deal_row-requires-clause-roomy : goal.deal_row-requires-clause-roomy
deal_row-requires-clause-roomy c =
    lanes_roomy c.self.inside c.args.self.now c.args._skips.now c.args.queue c.args.among c.self.invariant c.self.view_is c.requires.turn.there c.requires.lanes

pub deal_row-requires-clause-unpinned : goal.deal_row-requires-clause-unpinned
deal_row-requires-clause-unpinned c = unpinned c.self.inside c.args.queue c.self.invariant (queue_there c.self.inside c.args.self.now c.args.queue c.self.view_is c.requires.turn.there)

pub deal_row-requires-clause-places : goal.deal_row-requires-clause-places
deal_row-requires-clause-places c =
    let heads = c.push_heads.ensures in
    let few = heads.few in
    let first = c.as_slice.ensures.value ∙ row_begun c.args.run.now.items c.push_heads.new.into.items heads.heads c.requires.none heads.longer_is in
    places_left c.self.inside c.args.self.now c.args._skips.now c.args.queue c.args.among c.self.invariant c.self.view_is c.requires.turn.there c.requires.lanes c.args.bound (length c.as_slice.result.now) c.requires.left
    (omega (arith, few, ap length first, length-map heads.heads named_delivery))

pub deal_row-requires-clause-counts : goal.deal_row-requires-clause-counts
deal_row-requires-clause-counts c =
    counts_left c.self.inside c.args.self.now c.args._skips.now c.args.queue c.args.among c.self.invariant c.self.view_is c.requires.turn.there c.requires.lanes

pub deal_row-requires-clause-few : goal.deal_row-requires-clause-few
deal_row-requires-clause-few c =
    let heads = c.push_heads.ensures in
    let few = heads.few in
    let first = c.as_slice.ensures.value ∙ row_begun c.args.run.now.items c.push_heads.new.into.items heads.heads c.requires.none heads.longer_is in
    omega (arith, few, c.requires.room, ap length first, length-map heads.heads named_delivery)

pub remove_row-requires-clause-only : goal.remove_row-requires-clause-only
remove_row-requires-clause-only c =
    let at = (goal.at.remove_row-requires-clause-only c).After-as_slice-2 in
    let a = c.self.inside in
    let heads = c.push_heads.ensures in
    let count = c.len.result in
    let there : c.args.queue < length a.shape.queues = queue_there a c.args.self.now c.args.queue c.self.view_is c.requires.turn.there in
    subst (All (λ (d : Delivery). IsOnlyOf (waits_at a.queues c.args.queue) c.args.level.number (d.event.flow % (waits_at a.queues c.args.queue).slots) d.number)) (sym (row at))
    (heads_only a c.args.queue c.args.level.number (take count heads.heads) (drop count heads.heads ++ heads.rest) c.self.invariant there (whole at))

pub remove_row-requires-clause-heads : goal.remove_row-requires-clause-heads
remove_row-requires-clause-heads c =
    let at = (goal.at.remove_row-requires-clause-heads c).After-as_slice-2 in
    let heads = c.push_heads.ensures in
    (take c.len.result heads.heads, drop c.len.result heads.heads ++ heads.rest, whole at, row at)

pub invariant_of-self : goal.invariant_of-self
invariant_of-self c = (done (goal.at.invariant_of-self c).After-as_slice-2 c.remove_row.new.self c.remove_row.ensures).0

pub returns : goal.returns
returns c =
    let at = (goal.at.returns c).After-as_slice-2 in
    let a = c.self.inside in
    subst (λ ds. AreDealtOut c.args.queue c.args.bound c.args.among c.args.self.now c.args._skips.now ds c.deal_row.new.to.items (view_in (with_parts a c.remove_row.new.self c.deal_row.new.orders c.deal_row.new.pins c.deal_row.new.self)))
    (sym (cut_row c.push_heads.new.into.items c.truncate.new.self.items c.push_heads.ensures.heads c.len.result (begun at) c.truncate.ensures.items))
    (done at c.remove_row.new.self c.remove_row.ensures).1
