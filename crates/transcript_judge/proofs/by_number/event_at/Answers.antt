use Rattle.std.proofs.Common.{Some, ap, ◌∙◌}
use Rattle.transcript_judge.proofs.Trees.{lookup_is}
use Rattle.transcript_judge.proofs.by_number.event_at.Goals as goal

pub returns-in-Some : goal.returns-in-Some
returns-in-Some c = ap Some c.unpack.ensures ∙ (c.in-Some.ensures.value ∙ lookup_is c.args.events.now.entries c.args.number)

pub returns-in-None : goal.returns-in-None
returns-in-None c = c.in-None.ensures.value ∙ lookup_is c.args.events.now.entries c.args.number
