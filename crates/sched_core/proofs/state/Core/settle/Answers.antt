use Rattle.std.proofs.Common.{◌∙◌}
use Rattle.sched_core.proofs.Settling.{fewer_places, room_left, settles_turn, way_ends}
use Rattle.sched_core.proofs.state.Core.settle.Goals as goal

pub pass_on-requires-clause-room : goal.pass_on-requires-clause-room
pass_on-requires-clause-room g c =
    room_left c.args.queue c.args.answered c.args.self.now _ _ c.loop-mine.self _ _ c.loop-mine.passed c.loop-mine.invariant c.requires.room

pub loop-mine-preserved : goal.loop-mine-preserved
loop-mine-preserved g c =
    settles_turn c.args.queue c.args.answered c.args.self.now _ _ c.loop-mine.self c.pass_on.new.self _ _ _ _ c.loop-mine.passed c.in-Some.mine c.loop-mine.invariant c.in-Some.ensures.turn c.pass_on.ensures.room

pub loop-mine-smaller : goal.loop-mine-smaller
loop-mine-smaller g c =
    fewer_places c.args.queue c.args.answered c.loop-mine.self c.pass_on.new.self _ _ c.in-Some.mine c.loop-mine.invariant.there c.in-Some.ensures.turn

pub returns-clause-view : goal.returns-clause-view
returns-clause-view g c =
    c.in_default.ensures.turn.1
    ∙ (way_ends c.args.queue c.args.answered c.args.self.now _ c.loop-mine.self _ c.loop-mine.passed c.loop-mine.invariant.way c.in_default.ensures.turn.0).view

pub returns-clause-logged : goal.returns-clause-logged
returns-clause-logged g c =
    c.in_default.ensures.turn.2
    ∙ (way_ends c.args.queue c.args.answered c.args.self.now _ c.loop-mine.self _ c.loop-mine.passed c.loop-mine.invariant.way c.in_default.ensures.turn.0).steps

pub returns-clause-passed : goal.returns-clause-passed
returns-clause-passed g c =
    (way_ends c.args.queue c.args.answered c.args.self.now _ c.loop-mine.self _ c.loop-mine.passed c.loop-mine.invariant.way c.in_default.ensures.turn.0).passes
