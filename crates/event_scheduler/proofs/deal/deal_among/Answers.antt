-- What is dealt is gathered at its lanes, and goes into their rings.
use Rattle.std.proofs.Common.{◌+◌, ◌<◌, ◌≤◌, ◌==◌, All, length, refl, sym, ap, ◌∙◌, subst, arith}
use Rattle.std.proofs.lemmas.List.Elements.{All-weaker}
use Rattle.std.proofs.lemmas.List.Sums.{count_by-le-length}
use Rattle.event_scheduler.proofs.Deals.{deals_gave, left_deals}
use Rattle.event_scheduler.proofs.Passing.{chosen}
use Rattle.event_scheduler.specs.Dealing.{AreGathered}
use Rattle.event_scheduler.specs.Giving.{Gives}
use Rattle.event_scheduler.specs.Scheduler.{sight}
use Rattle.evt_types.proofs.FlowLanes.{port_is_lane}
use Rattle.evt_types.specs.Fault.{IsWithinLimits}
use Rattle.sched_core.proofs.Deals.{deals_count}
use Rattle.sched_core.specs.Offered.{numbered_in}
use Rattle.sched_core.specs.Runs.{times}
use Rattle.small_set.specs.SmallSets.{Has}
use Rattle.event_scheduler.proofs.deal.deal_among.Goals as goal

pub room_among-most-requires-clause-there : goal.room_among-most-requires-clause-there
room_among-most-requires-clause-there g c l has = omega (arith, port_is_lane c.args.core.now.shape l ((c.requires.choice.lanes l).0 has).lane, c.requires.lanes)

pub deal_row-requires-clause-room : goal.deal_row-requires-clause-room
deal_row-requires-clause-room g c =
    let limits : IsWithinLimits c.args.core.now.shape = subst IsWithinLimits c.shape.ensures c.limit.ensures.within in
    let o = c.args.offer.now in
    let facts = chosen c.args.core.now.shape c.args.skips.now c.args.core.now o.lane o.delivery.queue (numbered_in o.delivery) limits refl c.requires.long c.requires.choice.choice in
    omega (arith, c.requires.room, facts.quota)

pub gather_all-requires-clause-there : goal.gather_all-requires-clause-there
gather_all-requires-clause-there g c l has =
    omega (arith, port_is_lane c.args.core.now.shape l ((c.requires.choice.lanes l).0 has).lane, c.requires.lanes, c.room_among-most.ensures.lanes)

pub flush_all-requires-clause-there : goal.flush_all-requires-clause-there
flush_all-requires-clause-there g c l has =
    omega (arith, port_is_lane c.args.core.now.shape l ((c.requires.choice.lanes l).0 has).lane, c.requires.lanes, c.room_among-most.ensures.lanes, c.gather_all.ensures.lanes)

pub gather_all-requires-clause-counts : goal.gather_all-requires-clause-counts
gather_all-requires-clause-counts g c =
    ap length c.as_slice-2.ensures.value
    ∙ (deals_count c.args.core.now c.args.skips.now c.deal_row.new.run.items c.deal_row.new.to.items c.deal_row.new.self c.deal_row.new.skips c.deal_row.ensures.deals ∙ sym (ap length c.as_slice.ensures.value))

pub gather_all-requires-clause-room : goal.gather_all-requires-clause-room
gather_all-requires-clause-room g c l has =
    let to = c.deal_row.new.to.items in
    let dealt = c.deal_row.ensures in
    let count = deals_count c.args.core.now c.args.skips.now c.deal_row.new.run.items to c.deal_row.new.self c.deal_row.new.skips dealt.deals in
    let few : times l to ≤ c.room_among-most.result = omega (arith, count_by-le-length (λ k. k == l) to, count, dealt.few) in
    omega (arith, ap (times l) c.as_slice-2.ensures.value, c.room_among-most.ensures.room l has (times l to) few (dealt.room_of l has))

pub returns-clause-gives : goal.returns-clause-gives
returns-clause-gives g c pool v p n given bounced s before h =
    let core = c.args.core.now in
    let lanes = c.room_among-most.new.lanes.items in
    let ends = c.gather_all.new.lanes.items in
    let row = c.deal_row.new.run.items in
    let to = c.deal_row.new.to.items in
    let over = c.deal_row.new.skips in
    let dealt = c.deal_row.ensures in
    let log = g.L.StepLog.steps c.deal_row.new.log in
    let there : All (λ l. l < length lanes) to =
    All-weaker (Has c.args.among) (λ l. l < length lanes)
    (λ l has. omega (arith, port_is_lane core.shape l ((c.requires.choice.lanes l).0 has).lane, c.requires.lanes, c.room_among-most.ensures.lanes)) to dealt.lanes
    in
    let went : AreGathered lanes row to ends =
    subst (λ ds. AreGathered lanes ds to ends) c.as_slice.ensures.value (subst (λ ls. AreGathered lanes c.as_slice.result.now ls ends) c.as_slice-2.ensures.value c.gather_all.ensures.gathered)
    in
    let first = subst (λ t. Gives c.args.skips.now given bounced s before t (g.L.StepLog.steps c.args.log.now)) (c.room_among-most.ensures.same pool core v p n) h in
    subst (λ t. Gives over (given + c.len.result) bounced s before t log) (c.flush_all.ensures.same pool c.deal_row.new.self v p n)
    (subst (λ k. Gives over (given + k) bounced s before (sight pool c.deal_row.new.self ends v p n) log) (sym c.len.ensures.value)
    (subst (λ xs. Gives over (given + length row) bounced s before (sight pool c.deal_row.new.self ends v p n) xs) (sym dealt.logged)
    (deals_gave pool v p n bounced s before row to given core c.deal_row.new.self c.args.skips.now over lanes ends (g.L.StepLog.steps c.args.log.now) there dealt.deals went first)))

pub returns-clause-fewer : goal.returns-clause-fewer
returns-clause-fewer g c =
    let limits : IsWithinLimits c.args.core.now.shape = subst IsWithinLimits c.shape.ensures c.limit.ensures.within in
    let run = left_deals c.args.core.now.shape c.args.core.now c.args.skips.now c.deal_row.new.run.items c.deal_row.new.to.items c.deal_row.new.self c.deal_row.new.skips limits refl c.requires.long c.deal_row.ensures.deals in
    omega (arith, run.0, c.len.ensures.value)

pub returns-clause-long : goal.returns-clause-long
returns-clause-long g c =
    let limits : IsWithinLimits c.args.core.now.shape = subst IsWithinLimits c.shape.ensures c.limit.ensures.within in
    (left_deals c.args.core.now.shape c.args.core.now c.args.skips.now c.deal_row.new.run.items c.deal_row.new.to.items c.deal_row.new.self c.deal_row.new.skips limits refl c.requires.long c.deal_row.ensures.deals).1
