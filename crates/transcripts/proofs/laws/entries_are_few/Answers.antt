use Rattle.transcripts.proofs.Entries.{entries_few, held_few}
use Rattle.transcripts.proofs.laws.entries_are_few.Goals as goal

pub returns-clause-steps : goal.returns-clause-steps
returns-clause-steps c = entries_few

pub returns-clause-held : goal.returns-clause-held
returns-clause-held c = held_few
