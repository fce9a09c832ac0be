use Rattle.std.proofs.Common.{sym}
use Rattle.level_queues.proofs.Rings.{full_read, kept_pushed, room_read}
use Rattle.level_queues.proofs.levels.Levels.push.Goals as goal

pub invariant_of-self : goal.invariant_of-self
invariant_of-self c =
    kept_pushed c.self.inside.lists c.level.result c.index-self-level.result c.self.invariant c.level.ensures.few c.try_push_back.new.self c.args.item c.try_push_back.result (sym c.level.ensures.value) c.try_push_back.ensures.variant c.try_push_back.ensures.ok c.try_push_back.ensures.err

pub returns-clause-room : goal.returns-clause-room
returns-clause-room c =
    room_read c.self.inside.lists c.level.result c.index-self-level.result c.self.invariant c.level.ensures.few _ c.args.self.now _ c.level.ensures.value c.self.view_is c.try_push_back.ensures.variant

pub returns-clause-full : goal.returns-clause-full
returns-clause-full c =
    full_read c.self.inside.lists c.level.result c.index-self-level.result c.self.invariant c.level.ensures.few _ c.args.self.now c.try_push_back.result c.level.ensures.value c.self.view_is c.try_push_back.ensures.variant

pub returns-clause-levels : goal.returns-clause-levels
returns-clause-levels c = (invariant_of-self c).sound
