-- NEWs answer nothing.
use Rattle.lane_rings.specs.declared.far.Far.{Far}
use Rattle.lane_rings.proofs.Answering.{after_news}
use Rattle.lane_rings.proofs.far.Far.bring_row.Goals as goal

pub invariant_of-self : goal.invariant_of-self
invariant_of-self c =
    let far : Far = after_news c.args.self.now c.args.replies.now c.put_all.new.self c.requires.news c.put_all.ensures.put in
    record { held_is = far.held_is; held_are = far.held_are; held_few = far.held_few; held_room = far.held_room; all_received = far.all_received; extras_are = far.extras_are; extras_few = far.extras_few; beside = far.beside }
