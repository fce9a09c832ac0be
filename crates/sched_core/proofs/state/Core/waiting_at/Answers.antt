use Rattle.std.proofs.Common.{count_by, sym, ap, ◌∙◌}
use Rattle.transcripts.specs.Lawful.{is_of_level}
use Rattle.transcripts.specs.Standing.{View, waiting_at}
use Rattle.transcripts.proofs.WholeStands.{waiting_is}
use Rattle.sched_core.proofs.Busy.{waiting_there}
use Rattle.sched_core.proofs.state.Core.waiting_at.Goals as goal

pub returns-clause-value : goal.returns-clause-value
returns-clause-value c =
    c.count_at.ensures
    ∙ ap (count_by (is_of_level c.args.level)) (sym (waiting_there c.self.inside c.args.queue) ∙ ap (λ (v : View). waiting_at v c.args.queue) c.self.view_is)

pub returns-clause-model : goal.returns-clause-model
returns-clause-model c T stands = returns-clause-value c ∙ ap (count_by (is_of_level c.args.level)) (waiting_is c.args.self.now T c.args.queue stands c.requires.queue)
