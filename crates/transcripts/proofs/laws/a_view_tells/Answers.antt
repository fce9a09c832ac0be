use Rattle.transcripts.proofs.ViewTells.{entries_is, kept_is, may_take_is}
use Rattle.transcripts.proofs.WholeStands.{inside_is}
use Rattle.transcripts.proofs.laws.a_view_tells.Goals as goal

pub returns-clause-inside : goal.returns-clause-inside
returns-clause-inside c = inside_is

pub returns-clause-entries : goal.returns-clause-entries
returns-clause-entries c = entries_is

pub returns-clause-takes : goal.returns-clause-takes
returns-clause-takes c = may_take_is

pub returns-clause-kept : goal.returns-clause-kept
returns-clause-kept c = kept_is
