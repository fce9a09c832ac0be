use Rattle.std.proofs.Common.{refl, arith}
use Rattle.transcript_judge.proofs.Faults.{done_none, empty_row, released_le, releases_is, some_row}
use Rattle.transcript_judge.proofs.Moves.{read_done}
use Rattle.transcript_judge.proofs.Readings.{held_queues, sized}
use Rattle.transcript_judge.proofs.reading.Reading.follow_done.Goals as goal

pub index-held-requires : goal.index-held-requires
index-held-requires c = let size = sized c.args.shape.now c.args.past.now c.args.self.now c.requires.read in omega (arith, size.unanswered, c.requires.lane)

pub returns-then-is_empty : goal.returns-then-is_empty
returns-then-is_empty c = done_none c.args.shape.now c.args.past.now c.args.self.now c.args.lane c.args.outcome.now c.requires.read c.requires.none c.requires.lane (empty_row c.args.shape.now c.args.past.now c.args.self.now c.args.lane c.index-held.result.now c.is_empty.result c.requires.read c.requires.lane c.index-held.ensures c.is_empty.ensures c.if-is_empty.true)

pub answer-requires-clause-sized : goal.answer-requires-clause-sized
answer-requires-clause-sized c = sized c.args.shape.now c.args.past.now c.args.self.now c.requires.read

pub answer-requires-clause-some : goal.answer-requires-clause-some
answer-requires-clause-some c = some_row c.args.shape.now c.args.past.now c.args.self.now c.args.lane c.index-held.result.now c.is_empty.result c.requires.read c.requires.lane c.index-held.ensures c.is_empty.ensures c.if-is_empty.false

pub answer-requires-clause-queues : goal.answer-requires-clause-queues
answer-requires-clause-queues c = held_queues c.args.shape.now c.args.past.now c.args.self.now c.args.lane c.requires.read c.requires.none c.requires.lane

pub overflow_sub-self : goal.overflow_sub-self
overflow_sub-self c = omega (arith, c.released.ensures, released_le c.args.shape.now c.args.past.now c.args.self.now c.args.lane c.args.outcome.now c.requires.read c.requires.none c.requires.lane (some_row c.args.shape.now c.args.past.now c.args.self.now c.args.lane c.index-held.result.now c.is_empty.result c.requires.read c.requires.lane c.index-held.ensures c.is_empty.ensures c.if-is_empty.false))

pub returns : goal.returns
returns c =
    read_done c.args.shape.now c.args.past.now c.args.self.now _ c.args.lane c.args.outcome.now c.requires.read c.requires.none c.requires.lane c.requires.formed (some_row c.args.shape.now c.args.past.now c.args.self.now c.args.lane c.index-held.result.now c.is_empty.result c.requires.read c.requires.lane c.index-held.ensures c.is_empty.ensures c.if-is_empty.false)
    c.in_ok-answer.ensures.view c.in_ok-answer.ensures.kinds c.in_ok-answer.ensures.due refl
    (omega (arith, c.released.ensures, releases_is c.args.lane c.args.outcome.now, released_le c.args.shape.now c.args.past.now c.args.self.now c.args.lane c.args.outcome.now c.requires.read c.requires.none c.requires.lane (some_row c.args.shape.now c.args.past.now c.args.self.now c.args.lane c.index-held.result.now c.is_empty.result c.requires.read c.requires.lane c.index-held.ensures c.is_empty.ensures c.if-is_empty.false)))
