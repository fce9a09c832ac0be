use Rattle.transcript_judge.proofs.Faults.{turned_open}
use Rattle.transcript_judge.proofs.Moves.{read_turned}
use Rattle.transcript_judge.proofs.reading.Reading.turned_fault.Goals as goal

pub returns-then-self : goal.returns-then-self
returns-then-self c = read_turned c.args.shape.now c.args.past.now c.args.self.now c.args.lane c.args.event.now c.requires.read c.requires.none c.requires.formed c.if-self.true

pub returns-else-self : goal.returns-else-self
returns-else-self c = turned_open c.args.shape.now c.args.past.now c.args.self.now c.args.lane c.args.event.now c.requires.read c.requires.none c.if-self.false
