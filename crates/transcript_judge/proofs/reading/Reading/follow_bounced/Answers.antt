use Rattle.transcript_judge.proofs.Moves.{read_bounced}
use Rattle.transcript_judge.proofs.reading.Reading.follow_bounced.Goals as goal

pub returns : goal.returns
returns c = read_bounced c.args.shape.now c.args.past.now c.args.self.now c.args.lane c.requires.read c.requires.none c.requires.formed
