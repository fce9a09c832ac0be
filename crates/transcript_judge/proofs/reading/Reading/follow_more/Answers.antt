use Rattle.std.proofs.Common.{refl, arith}
use Rattle.transcript_judge.proofs.Faults.{empty_row, more_full, more_many, more_none, some_row}
use Rattle.transcript_judge.proofs.Moves.{read_more}
use Rattle.transcript_judge.proofs.Readings.{held_queues, sized}
use Rattle.transcript_judge.proofs.Walks.{number_at}
use Rattle.transcript_judge.proofs.reading.Reading.follow_more.Goals as goal

pub index-held-requires : goal.index-held-requires
index-held-requires c = let size = sized c.args.shape.now c.args.past.now c.args.self.now c.requires.read in omega (arith, size.unanswered, c.requires.lane)

pub index-requires : goal.index-requires
index-requires c = let size = sized c.args.shape.now c.args.past.now c.args.self.now c.requires.read in omega (arith, size.extras, c.requires.lane)

pub returns-then-is_empty : goal.returns-then-is_empty
returns-then-is_empty c = more_none c.args.shape.now c.args.past.now c.args.self.now c.args.lane c.args.event.now c.requires.read c.requires.none c.requires.lane (empty_row c.args.shape.now c.args.past.now c.args.self.now c.args.lane c.index-held.result.now c.is_empty.result c.requires.read c.requires.lane c.index-held.ensures c.is_empty.ensures c.if-is_empty.true)

pub returns-then-index-ge-MAX_EXTRAS : goal.returns-then-index-ge-MAX_EXTRAS
returns-then-index-ge-MAX_EXTRAS c =
    let size = sized c.args.shape.now c.args.past.now c.args.self.now c.requires.read in
    more_many c.args.shape.now c.args.past.now c.args.self.now c.args.lane c.args.event.now c.requires.read c.requires.none c.requires.lane (omega (arith, c.if-index-ge-MAX_EXTRAS.true, c.index.ensures, number_at c.args.self.now.ledger.extras.items c.args.lane c.index.result.now (omega (arith, size.extras, c.requires.lane))))

pub returns-then-self-bound : goal.returns-then-self-bound
returns-then-self-bound c = more_full c.args.shape.now c.args.past.now c.args.self.now c.args.lane c.args.event.now c.requires.read c.requires.none c.requires.lane (some_row c.args.shape.now c.args.past.now c.args.self.now c.args.lane c.index-held.result.now c.is_empty.result c.requires.read c.requires.lane c.index-held.ensures c.is_empty.ensures c.if-is_empty.false) (omega (arith, c.if-self-bound.true, c.bound.ensures.value))

pub add-requires-clause-sized : goal.add-requires-clause-sized
add-requires-clause-sized c = sized c.args.shape.now c.args.past.now c.args.self.now c.requires.read

pub add-requires-clause-some : goal.add-requires-clause-some
add-requires-clause-some c = some_row c.args.shape.now c.args.past.now c.args.self.now c.args.lane c.index-held.result.now c.is_empty.result c.requires.read c.requires.lane c.index-held.ensures c.is_empty.ensures c.if-is_empty.false

pub add-requires-clause-queues : goal.add-requires-clause-queues
add-requires-clause-queues c = held_queues c.args.shape.now c.args.past.now c.args.self.now c.args.lane c.requires.read c.requires.none c.requires.lane

pub returns : goal.returns
returns c =
    let size = sized c.args.shape.now c.args.past.now c.args.self.now c.requires.read in
    read_more c.args.shape.now c.args.past.now c.args.self.now _ c.args.lane c.args.event.now c.requires.read c.requires.none c.requires.lane c.requires.formed (some_row c.args.shape.now c.args.past.now c.args.self.now c.args.lane c.index-held.result.now c.is_empty.result c.requires.read c.requires.lane c.index-held.ensures c.is_empty.ensures c.if-is_empty.false)
    (omega (arith, c.if-index-ge-MAX_EXTRAS.false, c.index.ensures, number_at c.args.self.now.ledger.extras.items c.args.lane c.index.result.now (omega (arith, size.extras, c.requires.lane)))) (omega (arith, c.if-self-bound.false, c.bound.ensures.value))
    c.in_ok-add.ensures.view c.in_ok-add.ensures.kinds c.in_ok-add.ensures.due refl refl
