-- The ends of one lane more.
use Rattle.std.proofs.Common.{◌∙◌, ◌≤◌, arith}
use Rattle.event_device.proofs.Ends.{added_next}
use Rattle.event_device.proofs.lanes.add_lanes.Goals as goal

pub loop-number-preserved : goal.loop-number-preserved
loop-number-preserved c =
    let le : c.args.from ≤ c.loop-number.number = omega arith in
    let made = c.in_ok-near.ensures in
    let depth = made.room.0 ∙ c.depth_of.ensures.value in
    let room = made.room.1 ∙ c.replies_of.ensures.value in
    added_next c.args.shape.now c.args.from c.loop-number.number c.args.nears.now.items c.loop-number.nears.items c.push.new.self.items
    c.loop-number.fars.items c.push-in-loop-number.new.self.items c.in_ok-near.near c.in_ok-near.far le c.loop-number.invariant
    c.in_ok-push.ensures.items c.in_ok-push-2.ensures.items made.pair depth room (made.near.0, made.near.2, made.near.1) (made.far.0, made.far.2)
