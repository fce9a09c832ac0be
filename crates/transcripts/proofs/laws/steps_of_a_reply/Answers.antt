use Rattle.transcripts.proofs.OneAnswer.{steps_are_one}
use Rattle.transcripts.proofs.Replies.{steps_of_give_none, steps_of-replies}
use Rattle.transcripts.proofs.laws.steps_of_a_reply.Goals as goal

pub returns-clause-given : goal.returns-clause-given
returns-clause-given c v l r = steps_of_give_none v l r.event

pub returns-clause-said : goal.returns-clause-said
returns-clause-said c v l m r = steps_of-replies v l r.event m

pub returns-clause-unique : goal.returns-clause-unique
returns-clause-unique c = steps_are_one
