use Rattle.std.proofs.Common.{Some, map, ap, ◌∙◌}
use Rattle.transcripts.specs.Standing.{kept_under}
use Rattle.transcript_judge.proofs.Trees.{listed_fewer, lookup_is}
use Rattle.transcript_judge.proofs.by_number.take_at.Goals as goal

pub returns-in-Some-clause-event : goal.returns-in-Some-clause-event
returns-in-Some-clause-event c = ap Some c.unpack.ensures ∙ (c.in-Some.ensures.value ∙ lookup_is c.args.events.now.entries c.args.number)

pub returns-in-Some-clause-rest : goal.returns-in-Some-clause-rest
returns-in-Some-clause-rest c = ap (map kept_under) c.in-Some.ensures.entries ∙ listed_fewer c.args.events.now.entries c.args.number c.requires

pub returns-in-None-clause-event : goal.returns-in-None-clause-event
returns-in-None-clause-event c = c.in-None.ensures.value ∙ lookup_is c.args.events.now.entries c.args.number

pub returns-in-None-clause-rest : goal.returns-in-None-clause-rest
returns-in-None-clause-rest c = ap (map kept_under) c.in-None.ensures.entries ∙ listed_fewer c.args.events.now.entries c.args.number c.requires
