use Rattle.std.proofs.Common.{◌<◌, length, arith}
use Rattle.order_parts.specs.Histories.{HasRoom}
use Rattle.sched_core.proofs.Cores.{core_open}
use Rattle.sched_core.proofs.OpenSlots.{closed_at}
use Rattle.sched_core.proofs.state.Core.close_slot.Goals as goal

pub invariant_of-self : goal.invariant_of-self
invariant_of-self c =
    let a = c.self.inside in
    let full : ¬ HasRoom a.lanes c.args.lane = λ room. omega (arith, room, c.room.ensures, c.if-room-gt0.false) in
    let h : c.in-Some.field-0.queue < length a.open_slots.items = omega (arith, c.in-Some.ensures.within.0, c.self.invariant.open_slots.count) in
    core_open a _ c.self.invariant
    (closed_at a.shape a.lanes c.args.lane c.in-Some.field-0 a.open_slots.items c.index_mut.result.now c.remove.new.self c.in-Some.ensures.flow.0 c.in-Some.ensures.flow.1 h c.index_mut.ensures.value c.remove.ensures.others full c.self.invariant.open_slots)
