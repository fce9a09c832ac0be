-- Each answer ends the oldest that is held, and what was added beside it.
use Rattle.lane_rings.specs.declared.far.Far.{Far}
use Rattle.lane_rings.proofs.Answering.{after_row}
use Rattle.lane_rings.proofs.far.Far.answer_row.Goals as goal

pub invariant_of-self : goal.invariant_of-self
invariant_of-self c =
    let far : Far = after_row c.args.self.now c.args.replies.now c.put_all.new.self c.skip.new.self c.requires.answers c.requires.some c.requires.held c.put_all.ensures.put c.skip.ensures in
    record { held_is = far.held_is; held_are = far.held_are; held_few = far.held_few; held_room = far.held_room; all_received = far.all_received; extras_are = far.extras_are; extras_few = far.extras_few; beside = far.beside }
