use Rattle.std.proofs.Common.{◌<◌, ◌%◌, length, sym, ap, ◌∙◌, arith}
use Rattle.transcripts.specs.Choice.{IsOffer}
use Rattle.evt_types.specs.Plan.{level_of}
use Rattle.sched_core.proofs.OpenLanes.{room_here}
use Rattle.sched_core.proofs.Giving.{HasGiven, given_out, offer_here, offer_may, offer_place, offer_room, slot_here, with_parts}
use Rattle.sched_core.proofs.Cores.{lane_there, only_event, queue_there}
use Rattle.sched_core.proofs.FirstOnes.{slot_in_queue}
use Rattle.evt_types.specs.declared.event.Event.{Event}
use Rattle.sched_core.specs.View.{view_in}
use Rattle.parked_queue.specs.Waits.{waits_at}
use Rattle.sched_core.proofs.Busy.{waits_is}
use Rattle.sched_core.proofs.state.Core.hand_out.Goals as goal
use Rattle.sched_core.proofs.state.Core.hand_out.Goals.{After-push}

-- the core that it leaves
given : (c : After-push) → HasGiven (with_parts c.self.inside c.remove.new.self c.hand-place.new.self c.push.new.self c.pin.new.self) c.args.self.now c.args.lane c.args.queue c.args.waiting.now.number
given c =
    given_out c.self.inside c.args.self.now c.args.lane c.args.queue c.args.slot c.hand-place.result c.args.waiting.now c.self.invariant c.self.view_is c.requires.offer c.requires.slot c.remove.new.self c.hand-place.new.self c.push.new.self c.pin.new.self
    c.remove.ensures.value c.remove.ensures.waits c.hand-place.ensures.handed c.hand-place.ensures.place c.push.ensures c.pin.ensures

pub remove-requires-clause-only : goal.remove-requires-clause-only
remove-requires-clause-only c =
    let offer : IsOffer (view_in c.self.inside) c.args.lane c.args.queue c.args.waiting.now = offer_here c.self.inside c.args.self.now c.args.lane c.args.queue c.args.waiting.now c.self.view_is c.requires.offer in
    let h : c.args.queue < length c.self.inside.queues = omega (arith, offer.queue, c.self.invariant.queues) in
    λ k d lt same.
    let one = only_event c.self.inside c.args.queue (waits_at c.self.inside.queues c.args.queue) c.args.waiting.now c.self.invariant h (waits_is c.self.inside.queues c.args.queue h) offer.waits k d lt same in
    (ap level_of one ∙ sym c.requires.level, ap (λ (e : Event). e.flow % (waits_at c.self.inside.queues c.args.queue).slots) one ∙ (slot_in_queue c.self.inside c.args.queue (waits_at c.self.inside.queues c.args.queue) c.self.invariant h (waits_is c.self.inside.queues c.args.queue h) c.args.waiting.now ∙ sym (slot_here c.self.inside c.args.self.now c.args.queue c.args.slot c.args.waiting.now c.self.view_is c.requires.slot)))

pub pin-requires-clause-there : goal.pin-requires-clause-there
pin-requires-clause-there c = omega (arith, queue_there c.self.inside c.args.self.now c.args.queue c.self.view_is c.requires.offer.queue, c.self.invariant.pins.count)

pub pin-requires-clause-may : goal.pin-requires-clause-may
pin-requires-clause-may c = offer_may c.self.inside c.args.self.now c.args.lane c.args.queue c.args.slot c.args.waiting.now c.self.invariant c.self.view_is c.requires.offer c.requires.slot

pub pin-requires-clause-room : goal.pin-requires-clause-room
pin-requires-clause-room c = offer_room c.self.inside c.args.self.now c.args.lane c.args.queue c.args.slot c.args.waiting.now c.self.invariant c.self.view_is c.requires.offer c.requires.slot

pub hand-place-requires-clause-there : goal.hand-place-requires-clause-there
hand-place-requires-clause-there c = omega (arith, queue_there c.self.inside c.args.self.now c.args.queue c.self.view_is c.requires.offer.queue, c.self.invariant.places.count)

pub hand-place-requires-clause-room : goal.hand-place-requires-clause-room
hand-place-requires-clause-room c = offer_place c.self.inside c.args.self.now c.args.lane c.args.queue c.args.waiting.now c.self.invariant c.self.view_is c.requires.offer

pub push-requires-clause-there : goal.push-requires-clause-there
push-requires-clause-there c = lane_there c.self.inside c.args.self.now c.args.lane c.self.invariant c.self.view_is c.requires.offer.lane

pub push-requires-clause-room : goal.push-requires-clause-room
push-requires-clause-room c =
    let offer : IsOffer (view_in c.self.inside) c.args.lane c.args.queue c.args.waiting.now = offer_here c.self.inside c.args.self.now c.args.lane c.args.queue c.args.waiting.now c.self.view_is c.requires.offer in
    (room_here c.self.inside c.args.lane c.self.invariant (omega (arith, offer.lane, c.self.invariant.lanes))).1 offer.room

pub invariant_of-self : goal.invariant_of-self
invariant_of-self c = (given c).core

pub returns-clause-view : goal.returns-clause-view
returns-clause-view c = (given c).view
