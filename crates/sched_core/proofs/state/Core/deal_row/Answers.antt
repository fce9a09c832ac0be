use Rattle.std.proofs.Common.{◌∙◌, ◌++◌, ap, arith, length, slice_index, subst, sym}
use Rattle.evt_types.specs.Plan.{has_flow_lanes}
use Rattle.sched_core.proofs.Deals.{deal_named, deals_count, left_less}
use Rattle.sched_core.proofs.Runs.{turn_of}
use Rattle.step_log.specs.Gives.{deals_of}
use Rattle.sched_core.specs.Offered.{AreOpenLanes, numbered_in}
use Rattle.sched_core.specs.Runs.{AreDeals, given_times}
use Rattle.transcripts.specs.Choice.{IsChoice}
use Rattle.sched_core.proofs.state.Core.deal_row.Goals as goal

pub left_for-left-requires-clause-there : goal.left_for-left-requires-clause-there
left_for-left-requires-clause-there g c = omega (arith, c.queue-queue.ensures, c.requires.choice.choice.there)

pub left_for-left-requires-clause-quota : goal.left_for-left-requires-clause-quota
left_for-left-requires-clause-quota g c = omega (arith, ap (slice_index c.args.skips.now.given) c.queue-queue.ensures, c.requires.choice.choice.quota)

pub deal_first-requires-clause-turn : goal.deal_first-requires-clause-turn
deal_first-requires-clause-turn g c =
    let o = c.args.offer.now in
    turn_of c.args.self.now c.args.skips.now o.lane c.queue-queue.result o.level.number (numbered_in o.delivery)
    (subst (λ n. IsChoice c.args.self.now c.args.skips.now o.lane n (numbered_in o.delivery)) (sym c.queue-queue.ensures) c.requires.choice.choice) o.level_is

pub deal_first-requires-clause-ports : goal.deal_first-requires-clause-ports
deal_first-requires-clause-ports g c = ap (has_flow_lanes c.args.self.now.shape) c.queue-queue.ensures ∙ c.requires.choice.ports

pub deal_first-requires-clause-lanes : goal.deal_first-requires-clause-lanes
deal_first-requires-clause-lanes g c = subst (λ k. AreOpenLanes c.args.self.now c.args.skips.now k c.args.among) (sym c.queue-queue.ensures) c.requires.choice.lanes

pub deal_first-requires-clause-left : goal.deal_first-requires-clause-left
deal_first-requires-clause-left g c =
    left_less c.args.self.now c.args.skips.now c.queue-queue.result c.left_for-left.result c.min-bound.result (omega (arith, c.min.ensures, c.min-bound.ensures)) c.left_for-left.ensures.left

pub push_deals-requires-clause-lanes : goal.push_deals-requires-clause-lanes
push_deals-requires-clause-lanes g c =
    let dealt = c.deal_first.ensures.dealt in
    ap length c.as_slice-2.ensures.value
    ∙ (deals_count c.args.self.now c.args.skips.now c.deal_first.new.run.items c.deal_first.new.to.items c.deal_first.new.self (given_times c.args.skips.now c.queue-queue.result (length c.deal_first.new.run.items)) dealt.choices
    ∙ sym (ap length c.as_slice.ensures.value))

pub push_deals-requires-clause-room : goal.push_deals-requires-clause-room
push_deals-requires-clause-room g c =
    let dealt = c.deal_first.ensures.dealt in
    let left = c.left_for-left.ensures.left in
    let quota = left.quota in
    let few = dealt.few in
    omega (arith, few, quota, c.min.ensures, c.min-bound.ensures, c.requires.room, ap (slice_index c.args.skips.now.given) c.queue-queue.ensures, ap length c.as_slice.ensures.value)

pub returns-clause-deals : goal.returns-clause-deals
returns-clause-deals g c =
    let dealt = c.deal_first.ensures.dealt in
    subst (AreDeals c.args.self.now c.args.skips.now c.deal_first.new.run.items c.deal_first.new.to.items c.deal_first.new.self) (sym c.deal_first.ensures.passed) dealt.choices

pub returns-clause-logged : goal.returns-clause-logged
returns-clause-logged g c =
    let dealt = c.deal_first.ensures.dealt in
    let before = g.L.StepLog.steps c.args.log.now in
    c.push_deals.ensures.steps
    ∙ (ap (λ ds. before ++ deals_of c.queue-queue.result ds c.as_slice-2.result.now) c.as_slice.ensures.value
    ∙ (ap (λ ls. before ++ deals_of c.queue-queue.result c.deal_first.new.run.items ls) c.as_slice-2.ensures.value
    ∙ ap (λ ss. before ++ ss) (deal_named c.queue-queue.result c.deal_first.new.run.items c.deal_first.new.to.items dealt.named)))
