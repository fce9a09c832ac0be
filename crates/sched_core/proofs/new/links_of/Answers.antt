use Rattle.std.proofs.Common.{◌≡◌, ◌+◌, length, sym, ap, ◌∙◌, subst, arith}
use Rattle.std.proofs.lemmas.Bool.{false≢true}
use Rattle.std.proofs.lemmas.List.{length-map}
use Rattle.evt_types.proofs.FlowLanes.{port_is_lane}
use Rattle.evt_types.specs.Plan.{port_plan}
use Rattle.sched_core.proofs.Members.{those_none, those_on, those_past}
use Rattle.sched_core.specs.Links.{Serves}
use Rattle.sched_core.specs.Members.{AreThose}
use Rattle.sched_core.proofs.new.links_of.Goals as goal
use Rattle.sched_core.proofs.new.links_of.Goals.{then-serves, else-serves}

pub serves-requires-clause-lane : goal.serves-requires-clause-lane
serves-requires-clause-lane c =
    let count = length-map c.ports-lane-end.result.now port_plan in
    let e = ap length c.ports-lane-end.ensures in
    port_is_lane c.args.shape.now c.loop-lane.lane (omega (arith, count, e, c.loop-lane-test.true))

pub add-requires : goal.add-requires
add-requires c =
    let count = length-map c.ports-lane-end.result.now port_plan in
    let e = ap length c.ports-lane-end.ensures in
    let most = c.limit.ensures.within.port_count.1 in
    omega (arith, count, e, most, c.loop-lane-test.true)

pub loop-lane-init : goal.loop-lane-init
loop-lane-init c = those_none (Serves c.args.shape.now c.args.queue) c.none-lanes.result c.none-lanes.ensures

pub loop-lane-preserved : goal.loop-lane-preserved
loop-lane-preserved c =
    elim c.if-serves.branch [
      | then-serves w ↦
          subst (AreThose (Serves c.args.shape.now c.args.queue) (c.loop-lane.lane + 1)) (sym w.lanes-is)
          (those_on (Serves c.args.shape.now c.args.queue) c.loop-lane.lane c.loop-lane.lanes w.add.new.self (sym c.serves.ensures ∙ w.if-serves.true) w.add.ensures.there w.add.ensures.others c.loop-lane.invariant)
      | else-serves w ↦
          subst (AreThose (Serves c.args.shape.now c.args.queue) (c.loop-lane.lane + 1)) (sym w.lanes-is)
          (those_past (Serves c.args.shape.now c.args.queue) c.loop-lane.lane c.loop-lane.lanes (λ serving. false≢true (sym w.if-serves.false ∙ (c.serves.ensures ∙ serving))) c.loop-lane.invariant)
    ]

pub returns : goal.returns
returns c =
    let count = length-map c.ports-lane-end.result.now port_plan in
    let e = ap length c.ports-lane-end.ensures in
    let n : c.loop-lane.lane ≡ length c.args.shape.now.ports = omega (arith, count, e, c.loop-lane-test.false, c.loop-lane.auto.lane-end) in
    subst (λ m. AreThose (Serves c.args.shape.now c.args.queue) m c.loop-lane.lanes) n c.loop-lane.invariant
