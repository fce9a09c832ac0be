use Rattle.std.proofs.Common.{refl}
use Rattle.transcript_judge.proofs.Faults.{shut_again}
use Rattle.transcript_judge.proofs.Moves.{read_shut}
use Rattle.transcript_judge.proofs.reading.Reading.follow_shut.Goals as goal

pub returns-then-self : goal.returns-then-self
returns-then-self c = shut_again c.args.shape.now c.args.past.now c.args.self.now c.requires.read c.requires.none c.if-self.true

pub returns : goal.returns
returns c = read_shut c.args.shape.now c.args.past.now c.args.self.now _ c.requires.read c.requires.none c.if-self.false refl refl refl refl refl
