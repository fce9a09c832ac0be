use Rattle.std.proofs.Common.{◌≡◌, ℕ, ◌+◌, ◌*◌, ◌<◌, Some, true, Option, length, get_or, sym, ◌∙◌, subst}
use Rattle.std.proofs.lemmas.Bool.{false≢true}
use Rattle.std.specs.Option.{IfNone}
use Rattle.evt_types.specs.Plan.{has_flow_lanes}
use Rattle.transcripts.specs.Standing.{View}
use Rattle.sched_core.proofs.Cores.{queue_there}
use Rattle.order_parts.proofs.Fewest.{not_itself}
use Rattle.sched_core.proofs.OpenLanes.{slot_lane_here, slot_lane_none, slot_lane_alone}
use Rattle.sched_core.specs.Offered.{FitsSlot, loads_at}
use Rattle.sched_core.specs.SlotLanes.{IsSlotLane}
use Rattle.sched_core.specs.View.{IsCore, view_in}
use Rattle.sched_core.specs.declared.state.Core.TheInside.{Inside}
use Rattle.sched_core.proofs.state.Core.flow_for.Goals as goal

-- what is read is the view's slot lane
slot_lane_read : (a : Inside) (v : View) (q slot : ℕ) (read now : Option ℕ) → IsCore a → view_in a ≡ v → has_flow_lanes v.shape q ≡ true → q < length v.shape.queues → slot < 64 → read ≡ get_or a.slot_lanes.items (q * 64 + slot) read → read ≡ now
    → IsSlotLane v.shape q slot now
slot_lane_read a v q slot read now core same flows h few is was =
    subst (λ (u : View). IsSlotLane u.shape q slot now) same
    (subst (IsSlotLane a.shape q slot) was (slot_lane_here a q slot read core (subst (λ (u : View). has_flow_lanes u.shape q ≡ true) (sym same) flows) (queue_there a v q same h) few is))

pub fits-requires-clause-serves : goal.fits-requires-clause-serves
fits-requires-clause-serves c =
    let one : IsSlotLane c.args.self.now.shape c.args.queue c.args.slot (Some c.in_ok-lane.lane) = slot_lane_read c.self.inside c.args.self.now c.args.queue c.args.slot c.index.result.now _ c.self.invariant c.self.view_is c.requires.flows c.requires.queue c.requires.slot c.index.ensures c.in_ok-lane.was in
    one.1

pub returns-in_err-lane-clause-none : goal.returns-in_err-lane-clause-none
returns-in_err-lane-clause-none c =
    subst (λ (o : Option ℕ). IfNone o ((l : ℕ) → ¬ FitsSlot c.args.self.now c.args.skips.now c.args.queue c.args.slot l)) (sym c.from_residual.ensures)
    (slot_lane_none c.args.self.now c.args.skips.now c.args.queue c.args.slot c.requires.flows
    (slot_lane_read c.self.inside c.args.self.now c.args.queue c.args.slot c.index.result.now _ c.self.invariant c.self.view_is c.requires.flows c.requires.queue c.requires.slot c.index.ensures c.in_err-lane.was))

pub returns-then-fits-clause-best : goal.returns-then-fits-clause-best
returns-then-fits-clause-best c m fits =
    let one : IsSlotLane c.args.self.now.shape c.args.queue c.args.slot (Some c.in_ok-lane.lane) = slot_lane_read c.self.inside c.args.self.now c.args.queue c.args.slot c.index.result.now _ c.self.invariant c.self.view_is c.requires.flows c.requires.queue c.requires.slot c.index.ensures c.in_ok-lane.was in
    not_itself (loads_at c.args.self.now) c.in_ok-lane.lane m (sym (slot_lane_alone c.args.self.now c.args.skips.now c.args.queue c.args.slot c.in_ok-lane.lane m c.requires.flows one fits))

pub returns-else-fits-clause-none : goal.returns-else-fits-clause-none
returns-else-fits-clause-none c m fits =
    let one : IsSlotLane c.args.self.now.shape c.args.queue c.args.slot (Some c.in_ok-lane.lane) = slot_lane_read c.self.inside c.args.self.now c.args.queue c.args.slot c.index.result.now _ c.self.invariant c.self.view_is c.requires.flows c.requires.queue c.requires.slot c.index.ensures c.in_ok-lane.was in
    let same = slot_lane_alone c.args.self.now c.args.skips.now c.args.queue c.args.slot c.in_ok-lane.lane m c.requires.flows one fits in
    false≢true (sym c.if-fits.false ∙ c.fits.ensures.1 (subst (FitsSlot c.args.self.now c.args.skips.now c.args.queue c.args.slot) same fits))
