use Rattle.std.proofs.Common.{ap, arith, ℕ, ◌+◌, ◌*◌, ◌≤◌}
use Rattle.event_scheduler.proofs.Ending.{all_ended, none_first, none_more, one_more}
use Rattle.event_scheduler.proofs.Taking.{count_on, lane_count, lane_room, room_on}
use Rattle.evt_types.specs.Plan.{Plan, lanes_of}
use Rattle.transcripts.specs.Standing.{kept_in}
use Rattle.event_scheduler.proofs.scheduler.Scheduler.take_all.Goals as goal

pub loop-from-init : goal.loop-from-init
loop-from-init g c = (none_first _ _ _, omega arith, omega arith, omega arith)

pub returns-then-lane-count-clause-takes : goal.returns-then-lane-count-clause-takes
returns-then-lane-count-clause-takes g c =
    let was = c.loop-from.invariant in
    all_ended _ _ _ _ _ _ _ (omega (arith, c.if-lane-count.true, c.seek-lane.ensures.lane.1, ap lanes_of was.0.takes.runs.shape, c.lanes-count.ensures.value, ap lanes_of c.shape.ensures))
    (none_more c.loop-from.from c.seek-lane.result _ _ _ _ _ _ _ c.seek-lane.ensures.lane.0 was.0 (c.seek-lane.ensures.takes _) c.seek-lane.ensures.others c.seek-lane.ensures.none)

pub loop-from-preserved : goal.loop-from-preserved
loop-from-preserved g c =
    let was = c.loop-from.invariant in
    let on = none_more c.loop-from.from c.seek-lane.result _ _ _ _ _ _ _ c.seek-lane.ensures.lane.0 was.0 (c.seek-lane.ensures.takes _) c.seek-lane.ensures.others c.seek-lane.ensures.none in
    let same = ap (λ (p : Plan). p.sweep) on.takes.runs.shape in
    let q : ℕ = c.args.self.now.core.shape.sweep in
    let had : g.L.StepLog.room c.args.log.now + kept_in c.seek-lane.new.self.core ≤ g.L.StepLog.room c.loop-from.log + kept_in c.args.self.now.core + 2 * q * c.seek-lane.result =
    omega (
      arith,
      room_on q c.loop-from.from c.seek-lane.result (g.L.StepLog.room c.args.log.now) (g.L.StepLog.room c.loop-from.log) (kept_in c.args.self.now.core) (kept_in c.loop-from.self.core) c.seek-lane.ensures.lane.0 was.1,
      ap kept_in c.seek-lane.ensures.core,
    )
    in (
      one_more _ _ _ _ _ _ _ _ _ _ _ same on c.take_lane-taken.ensures.takes c.take_lane-taken.ensures.ends c.take_lane-taken.ensures.others,
      lane_room _ _ _ _ _ _ _ _ _ same had c.take_lane-taken.ensures.room,
      lane_count _ _ _ _ _ same (count_on q c.loop-from.from c.seek-lane.result c.loop-from.taken c.seek-lane.ensures.lane.0 was.2) c.take_lane-taken.ensures.most,
      omega (arith, c.if-lane-count.false),
    )

pub returns-clause-takes : goal.returns-clause-takes
returns-clause-takes g c =
    let was = c.loop-from.invariant in
    all_ended _ _ _ _ _ _ _ (omega (arith, c.loop-from-test.false, was.3, c.lanes-count.ensures.value, ap lanes_of c.shape.ensures)) was.0
