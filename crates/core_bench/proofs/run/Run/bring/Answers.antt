use Rattle.std.proofs.Common.{◌<◌, ap, ◌∙◌, arith}
use Rattle.evt_types.specs.Plan.{lanes_of}
use Rattle.core_bench.proofs.Ready.{reply_fits}
use Rattle.core_bench.proofs.run.Run.bring.Goals as goal

pub take_new-requires-clause-room : goal.take_new-requires-clause-room
take_new-requires-clause-room c =
    let lane : 0 < lanes_of c.self.inside.core.shape = omega (arith, c.lanes.ensures.few, c.lanes.ensures.value ∙ ap lanes_of c.shape.ensures) in
    omega (arith, reply_fits _ _ _ c.self.invariant 0 c.args.event lane, c.clear.ensures.len, c.clear.ensures.capacity)
