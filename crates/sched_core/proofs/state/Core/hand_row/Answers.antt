use Rattle.std.proofs.Common.{◌≡◌, ◌<◌, ◌%◌, ◌++◌, All, List, ap, arith, drop, length, map, set, subst, sym, take, ◌∙◌}
use Rattle.std.proofs.lemmas.List.{length-map, length-take}
use Rattle.std.proofs.lemmas.List.Elements.{All-take}
use Rattle.std.specs.List.{take-map}
use Rattle.evt_types.specs.Plan.{lanes_of}
use Rattle.evt_types.specs.declared.event.Delivery.{Delivery}
use Rattle.evt_types.specs.declared.event.Numbered.{Numbered}
use Rattle.parked_queue.specs.Lists.{named_delivery}
use Rattle.parked_queue.specs.Rows.{at_level, without_all}
use Rattle.parked_queue.specs.Waits.{IsOnlyOf, Waits, waits_at}
use Rattle.sched_core.proofs.Cores.{queue_there}
use Rattle.sched_core.proofs.Pinned.{pin_room_for}
use Rattle.sched_core.proofs.GiftRows.{cut_heads, cut_row, heads_only, row_begun, row_done, with_parts}
use Rattle.sched_core.specs.GiftRows.{AreHanded}
use Rattle.sched_core.specs.Runs.{AreGiven, IsSteady}
use Rattle.sched_core.specs.View.{IsCore, unanswered_in, view_in}
use Rattle.transcripts.specs.Standing.{View}
use Rattle.sched_core.proofs.state.Core.hand_row.Goals as goal
use Rattle.sched_core.proofs.state.Core.hand_row.Goals.{After-as_slice-2}

-- ---- what holds once the run has the events that were handed out

begun : (c : After-as_slice-2) → c.push_heads.new.into.items ≡ map named_delivery c.push_heads.ensures.heads
begun c = row_begun c.args.run.now.items c.push_heads.new.into.items c.push_heads.ensures.heads c.requires.none c.push_heads.ensures.longer_is

row : (c : After-as_slice-2) → c.as_slice-2.result.now ≡ map named_delivery (take c.hand_all-count.result c.push_heads.ensures.heads)
row c = c.as_slice-2.ensures.value ∙ cut_row c.push_heads.new.into.items c.truncate.new.self.items c.push_heads.ensures.heads c.hand_all-count.result (begun c) c.truncate.ensures.items

whole : (c : After-as_slice-2) → at_level c.args.level.number (waits_at c.self.inside.queues c.args.queue) ≡ take c.hand_all-count.result c.push_heads.ensures.heads ++ (drop c.hand_all-count.result c.push_heads.ensures.heads ++ c.push_heads.ensures.rest)
whole c =
    let heads = c.push_heads.ensures in
    cut_heads (at_level c.args.level.number (waits_at c.self.inside.queues c.args.queue)) heads.heads heads.rest c.hand_all-count.result heads.whole

handed : (c : After-as_slice-2)
    → AreHanded (waits_at c.self.inside.queues c.args.queue).slots c.args.lane c.args.queue c.self.inside.orders c.self.inside.pins c.self.inside.lanes (map named_delivery (take c.hand_all-count.result c.push_heads.ensures.heads)) c.hand_all-count.new.orders c.hand_all-count.new.pins c.hand_all-count.new.lanes
handed c =
    let a = c.self.inside in
    let q = c.args.queue in
    let count = c.hand_all-count.result in
    subst (λ (ds : List Delivery). AreHanded (waits_at a.queues q).slots c.args.lane q a.orders a.pins a.lanes ds c.hand_all-count.new.orders c.hand_all-count.new.pins c.hand_all-count.new.lanes)
    (ap (take count) (c.as_slice.ensures.value ∙ begun c) ∙ take-map named_delivery count c.push_heads.ensures.heads)
    (subst (λ n. AreHanded n c.args.lane q a.orders a.pins a.lanes (take count c.as_slice.result.now) c.hand_all-count.new.orders c.hand_all-count.new.pins c.hand_all-count.new.lanes) c.slots.ensures c.hand_all-count.ensures.handed)

-- the core that it leaves, with these queues
done : (c : After-as_slice-2) (qs : List Waits)
    → qs ≡ set c.self.inside.queues c.args.queue (without_all (waits_at c.self.inside.queues c.args.queue) c.as_slice-2.result.now)
    → IsCore (with_parts c.self.inside qs c.hand_all-count.new.orders c.hand_all-count.new.pins c.hand_all-count.new.lanes)
    × AreGiven c.args.lane c.args.queue c.args.bound c.args.self.now c.args._skips.now (map named_delivery (take c.hand_all-count.result c.push_heads.ensures.heads))
    (view_in (with_parts c.self.inside qs c.hand_all-count.new.orders c.hand_all-count.new.pins c.hand_all-count.new.lanes))
done c qs queues =
    let a = c.self.inside in
    let q = c.args.queue in
    let heads = c.push_heads.ensures in
    let few = heads.few in
    let count = c.hand_all-count.result in
    row_done c.args.lane q c.args.level.number c.args.bound c.args._lanes c.below.result c.requires.alone c.below.ensures a c.args.self.now c.args._skips.now c.self.invariant c.self.view_is c.requires.ports c.requires.counts
    c.requires.turn c.requires.steady (take count heads.heads) (drop count heads.heads ++ heads.rest) (whole c)
    (All-take (λ (w : Numbered). w.event.queue ≡ q) count heads.heads heads.named) (omega (arith, few, length-take count heads.heads))
    qs c.hand_all-count.new.orders c.hand_all-count.new.pins c.hand_all-count.new.lanes (queues ∙ ap (λ (ds : List Delivery). set a.queues q (without_all (waits_at a.queues q) ds)) (row c)) (handed c)

-- ---- its goals

pub hand_all-count-requires-clause-counts : goal.hand_all-count-requires-clause-counts
hand_all-count-requires-clause-counts c slot may =
    let a = c.self.inside in
    let heads = c.push_heads.ensures in
    let first = c.as_slice.ensures.value ∙ row_begun c.args.run.now.items c.push_heads.new.into.items heads.heads c.requires.none heads.longer_is in
    let there : c.args.queue < length a.shape.queues = queue_there a c.args.self.now c.args.queue c.self.view_is c.requires.turn.there in
    let lane : c.args.lane < lanes_of a.shape = subst (λ (v : View). c.args.lane < lanes_of v.shape) (sym c.self.view_is) c.requires.lane in
    let steady = subst (λ v. IsSteady v c.args._skips.now c.args.lane c.args.queue c.args.bound c.args._lanes) (sym c.self.view_is) c.requires.steady in
    let room = steady.room in
    let few = heads.few in
    let more = pin_room_for a.shape (map unanswered_in a.lanes) a.pins c.args.queue slot c.args.lane (length heads.heads) c.self.invariant.pins c.self.invariant.limits there lane (omega (arith, room, few)) may in
    omega (arith, more, ap length first, length-map heads.heads named_delivery)

pub remove_row-requires-clause-only : goal.remove_row-requires-clause-only
remove_row-requires-clause-only c =
    let at = (goal.at.remove_row-requires-clause-only c).After-as_slice-2 in
    let a = c.self.inside in
    let heads = c.push_heads.ensures in
    let count = c.hand_all-count.result in
    let there : c.args.queue < length a.shape.queues = queue_there a c.args.self.now c.args.queue c.self.view_is c.requires.turn.there in
    subst (All (λ (d : Delivery). IsOnlyOf (waits_at a.queues c.args.queue) c.args.level.number (d.event.flow % (waits_at a.queues c.args.queue).slots) d.number)) (sym (row at))
    (heads_only a c.args.queue c.args.level.number (take count heads.heads) (drop count heads.heads ++ heads.rest) c.self.invariant there (whole at))

pub remove_row-requires-clause-heads : goal.remove_row-requires-clause-heads
remove_row-requires-clause-heads c =
    let at = (goal.at.remove_row-requires-clause-heads c).After-as_slice-2 in
    let heads = c.push_heads.ensures in
    (take c.hand_all-count.result heads.heads, drop c.hand_all-count.result heads.heads ++ heads.rest, whole at, row at)

pub invariant_of-self : goal.invariant_of-self
invariant_of-self c = (done (goal.at.invariant_of-self c).After-as_slice-2 c.remove_row.new.self c.remove_row.ensures).0

pub returns : goal.returns
returns c =
    let at = (goal.at.returns c).After-as_slice-2 in
    let a = c.self.inside in
    subst (λ ds. AreGiven c.args.lane c.args.queue c.args.bound c.args.self.now c.args._skips.now ds (view_in (with_parts a c.remove_row.new.self c.hand_all-count.new.orders c.hand_all-count.new.pins c.hand_all-count.new.lanes)))
    (sym (cut_row c.push_heads.new.into.items c.truncate.new.self.items c.push_heads.ensures.heads c.hand_all-count.result (begun at) c.truncate.ensures.items))
    (done at c.remove_row.new.self c.remove_row.ensures).1
