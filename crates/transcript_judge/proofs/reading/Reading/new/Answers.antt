use Rattle.std.proofs.Common.{refl}
use Rattle.transcript_judge.proofs.Moves.{read_start}
use Rattle.transcript_judge.proofs.reading.Reading.new.Goals as goal

pub returns : goal.returns
returns c = read_start c.args.shape.now _ c.in_ok-new.ensures.view c.in_ok-new.ensures.kinds c.new-2.ensures.items refl refl
