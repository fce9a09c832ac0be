use Rattle.std.proofs.Common.{sym, ◌∙◌}
use Rattle.pipeline_laws.proofs.AcceptedEvents.{hold_still}
use Rattle.pipeline_laws.proofs.accepted.add_accepted.Goals as goal

pub returns-in_default-clause-hold : goal.returns-in_default-clause-hold
returns-in_default-clause-hold c T hold = hold_still T c.args.lists.now.items c.args.step.now (sym c.accepted_by.ensures ∙ c.in_default.is) hold
