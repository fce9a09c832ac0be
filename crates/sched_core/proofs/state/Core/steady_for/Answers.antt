use Rattle.std.proofs.Common.{◌≡◌, ℕ, ◌+◌, ◌-◌, ◌<◌, ◌≤◌, min, [], length, slice_index, sym, ap, ◌∙◌, arith}
use Rattle.evt_types.specs.Plan.{depth_of, lanes_of}
use Rattle.order_parts.specs.History.{entries_of}
use Rattle.order_parts.specs.Histories.{lane_in}
use Rattle.order_parts.specs.Orders.{order_at, places_for}
use Rattle.sched_core.proofs.Cores.{lane_there}
use Rattle.sched_core.proofs.Deals.{left_here, no_more}
use Rattle.sched_core.proofs.OpenLanes.{held_here}
use Rattle.sched_core.specs.Offered.{AreOpenLanes}
use Rattle.sched_core.specs.Runs.{IsSteady}
use Rattle.sched_core.specs.View.{view_in, IsCore}
use Rattle.sched_core.specs.declared.state.Core.TheInside.{Inside}
use Rattle.small_set.specs.declared.set.SmallSet.{SmallSet}
use Rattle.transcripts.specs.Choice.{Passed}
use Rattle.transcripts.specs.Standing.{View, unanswered_at}
use Rattle.sched_core.proofs.state.Core.steady_for.Goals as goal

-- as many events as no count hinders
steady_here : (a : Inside) (v : View) (s : Passed) (l q n m quota room : ℕ) → IsCore a → view_in a ≡ v → q < length v.shape.queues → l < lanes_of v.shape → slice_index s.given q ≤ v.shape.sweep → quota ≡ a.shape.sweep - slice_index s.given q
    → room + length (lane_in a.lanes l).entries ≡ (lane_in a.lanes l).capacity → m ≡ min room quota → n ≡ places_for (order_at a.orders q) m → (lanes : SmallSet) → AreOpenLanes v s q lanes → IsSteady v s l q n lanes
steady_here a v s l q n m quota room core same queue lane fits left free least is lanes opened =
    let h = lane_there a v l core same lane in
    let held : length (unanswered_at v l) ≡ length (lane_in a.lanes l).entries = sym (ap (λ (u : View). length (unanswered_at u l)) same) ∙ held_here a l h in
    let depth : (lane_in a.lanes l).capacity ≡ depth_of v.shape l = core.room l (entries_of [] 0) h ∙ ap (λ (u : View). depth_of u.shape l) same in
    let sweep : a.shape.sweep ≡ v.shape.sweep = ap (λ (u : View). u.shape.sweep) same in
    let its = left_here a v s q n m core same queue (omega (arith, fits, left, sweep, least)) is in
    record {
      quota = its.quota;
      opened = λ more. opened;
      room = omega (arith, held, depth, free, least, is, no_more (order_at a.orders q) m);
      places = its.places;
    }

pub returns-clause-steady : goal.returns-clause-steady
returns-clause-steady c =
    steady_here c.self.inside c.args.self.now c.args.skips.now c.args.lane c.args.queue c.places_for.result c.min.result c.quota_left-quota.result c.room-room.result c.self.invariant c.self.view_is c.requires.there c.requires.lane c.requires.quota
    (c.quota_left-quota.ensures.value ∙ ap (λ n. n - slice_index c.args.skips.now.given c.args.queue) c.sweep.ensures.value) c.room-room.ensures c.min.ensures c.places_for.ensures
