-- The level's first events go, and with the last of a queue its mark.
use Rattle.std.proofs.Common.{refl}
use Rattle.parked_queue.proofs.HeadRows.{queue_emptied, queues_gone, row_counted, row_listed, waits_gone}
use Rattle.parked_queue.proofs.queues.ParkedQueues.remove_row.Goals as goal

pub drop_heads-requires-clause-some : goal.drop_heads-requires-clause-some
drop_heads-requires-clause-some c =
    row_listed c.self.inside c.self.invariant c.args.self.now c.self.view_is c.args.queue c.requires.there c.index_mut-left.result.now
    c.index_mut-left.ensures.value c.args.level (c.index-asked.result.now, c.index-asked.ensures, c.if-not-is_empty.ensures.0 refl) c.args.row.now
    c.requires.heads

pub overflow_sub-left : goal.overflow_sub-left
overflow_sub-left c =
    row_counted c.self.inside c.self.invariant c.args.self.now c.self.view_is c.args.queue c.requires.there c.index_mut-left.result.now
    c.index_mut-left.ensures.value c.args.level (c.index-asked.result.now, c.index-asked.ensures, c.if-not-is_empty.ensures.0 refl) c.args.row.now
    c.requires.heads c.requires.only

pub invariant_of-self : goal.invariant_of-self
invariant_of-self c =
    queue_emptied c.self.inside c.self.invariant c.args.self.now c.self.view_is c.args.queue c.requires.there c.index_mut-left.result.now
    c.index_mut-left.ensures.value c.args.level (c.index-asked.result.now, c.index-asked.ensures, c.if-not-is_empty.ensures.0 refl) c.args.row.now
    c.requires.heads c.requires.only c.drop_heads.new.self c.drop_heads.ensures c.remove.new.self c.if-left-eq0.true c.remove.ensures.others

pub invariant_of-self-else-left-eq0 : goal.invariant_of-self-else-left-eq0
invariant_of-self-else-left-eq0 c =
    queues_gone c.self.inside c.self.invariant c.args.self.now c.self.view_is c.args.queue c.requires.there c.index_mut-left.result.now
    c.index_mut-left.ensures.value c.args.level (c.index-asked.result.now, c.index-asked.ensures, c.if-not-is_empty.ensures.0 refl) c.args.row.now
    c.requires.heads c.requires.only c.drop_heads.new.self c.drop_heads.ensures

pub returns-then-left-eq0 : goal.returns-then-left-eq0
returns-then-left-eq0 c =
    waits_gone c.self.inside c.self.invariant c.args.self.now c.self.view_is c.args.queue c.requires.there c.index_mut-left.result.now
    c.index_mut-left.ensures.value c.args.level (c.index-asked.result.now, c.index-asked.ensures, c.if-not-is_empty.ensures.0 refl) c.args.row.now
    c.requires.heads c.requires.only c.drop_heads.new.self c.drop_heads.ensures

pub returns-else-left-eq0 : goal.returns-else-left-eq0
returns-else-left-eq0 c =
    waits_gone c.self.inside c.self.invariant c.args.self.now c.self.view_is c.args.queue c.requires.there c.index_mut-left.result.now
    c.index_mut-left.ensures.value c.args.level (c.index-asked.result.now, c.index-asked.ensures, c.if-not-is_empty.ensures.0 refl) c.args.row.now
    c.requires.heads c.requires.only c.drop_heads.new.self c.drop_heads.ensures
