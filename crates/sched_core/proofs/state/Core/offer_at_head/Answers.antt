use Rattle.std.proofs.Common.{◌∙◌, arith}
use Rattle.transcripts.specs.Standing.{View}
use Rattle.sched_core.proofs.FirstOnes.{found_first, found_slot, offer_slot, slots_within}
use Rattle.sched_core.proofs.Offers.{offer_in, offer_made}
use Rattle.sched_core.proofs.Cores.{limits_here}
use Rattle.sched_core.proofs.state.Core.offer_at_head.Goals as goal

pub lane_for-requires-clause-slot : goal.lane_for-requires-clause-slot
lane_for-requires-clause-slot c = let waits = c.in_ok-found.ensures.waits in omega (arith, c.in_ok-found.ensures.slot, waits.some, waits.few)

pub returns-clause-offer : goal.returns-clause-offer
returns-clause-offer c =
    let v : View = c.args.self.now in
    let limits = limits_here c.self.inside v c.self.invariant c.self.view_is in
    let found = c.in_ok-found.found in
    offer_made v c.args.skips.now c.args.queue c.args.level.number c.in_ok-lane.lane found.waiting c.of.result c.of.ensures.lane (c.of.ensures.queue ∙ c.in_ok-found.ensures.names) c.of.ensures.event
    (offer_in v c.args.skips.now c.args.queue c.args.level.number c.in_ok-lane.lane found.slot c.args.allowed found.waiting c.requires.allowed (slots_within v c.args.queue limits c.requires.queue)
    (found_first c.self.inside v c.args.queue c.self.invariant c.self.view_is c.requires.queue c.args.level.number c.args.allowed found.waiting c.in_ok-found.ensures.first)
    (found_slot c.self.inside v c.args.queue c.self.invariant c.self.view_is c.requires.queue found.slot found.waiting c.in_ok-found.ensures.slot)
    c.in_ok-lane.ensures.fits c.in_ok-lane.ensures.best)

pub returns-clause-slot : goal.returns-clause-slot
returns-clause-slot c =
    let found = c.in_ok-found.found in
    offer_slot c.self.inside c.args.self.now c.args.queue c.self.invariant c.self.view_is c.requires.queue found.slot found.waiting c.of.result c.in_ok-found.ensures.slot c.of.ensures.slot (c.of.ensures.queue ∙ c.in_ok-found.ensures.names) c.of.ensures.event
