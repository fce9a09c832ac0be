use Rattle.std.proofs.Common.{arith, refl}
use Rattle.transcript_judge.proofs.Faults.{new_closed, new_full}
use Rattle.transcript_judge.proofs.Moves.{read_new}
use Rattle.transcript_judge.proofs.Readings.{sized}
use Rattle.transcript_judge.proofs.reading.Reading.follow_new.Goals as goal

pub returns-then-self : goal.returns-then-self
returns-then-self c = new_closed c.args.shape.now c.args.past.now c.args.self.now c.args.queue c.args.event.now c.args.lane c.requires.read c.requires.none c.if-self.true

pub returns-then-self-bound : goal.returns-then-self-bound
returns-then-self-bound c = new_full c.args.shape.now c.args.past.now c.args.self.now c.args.queue c.args.event.now c.args.lane c.requires.read c.requires.none c.requires.formed (omega (arith, c.if-self-bound.true, c.bound.ensures.value))

pub enter-requires-clause-queue : goal.enter-requires-clause-queue
enter-requires-clause-queue c = let size = sized c.args.shape.now c.args.past.now c.args.self.now c.requires.read in omega (arith, size.waiting, c.requires.formed.entry.queue)

pub returns : goal.returns
returns c =
    read_new c.args.shape.now c.args.past.now c.args.self.now _ c.args.queue c.args.event.now c.args.lane c.requires.read c.requires.none c.requires.formed c.if-self.false
    (omega (arith, c.if-self-bound.false, c.bound.ensures.value)) (c.in_ok-enter.ensures.view c.args.shape.now) c.in_ok-enter.ensures.kinds refl refl refl
