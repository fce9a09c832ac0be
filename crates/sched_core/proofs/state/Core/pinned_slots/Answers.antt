use Rattle.std.proofs.Common.{ap, ◌∙◌}
use Rattle.transcripts.specs.Standing.{View, unanswered_at}
use Rattle.transcripts.proofs.WholeStands.{unanswered_is}
use Rattle.sched_core.specs.Inside.{slots_among}
use Rattle.sched_core.specs.View.{unanswered_in}
use Rattle.std.specs.Prelude.{map}
use Rattle.sched_core.proofs.Cores.{queue_there}
use Rattle.sched_core.proofs.Counted.{slots_counted}
use Rattle.sched_core.proofs.state.Core.pinned_slots.Goals as goal

pub returns-clause-value : goal.returns-clause-value
returns-clause-value c =
    let there = queue_there c.self.inside c.args.self.now c.args.queue c.self.view_is c.requires in
    c.slots_on.ensures
    ∙ (slots_counted c.self.inside.shape (map unanswered_in c.self.inside.lanes) c.self.inside.pins c.args.queue c.args.lane c.self.invariant.pins there
    ∙ ap (λ (v : View). slots_among v.shape c.args.queue (unanswered_at v c.args.lane)) c.self.view_is)

pub returns-clause-model : goal.returns-clause-model
returns-clause-model c T stands lane =
    returns-clause-value c ∙ ap (slots_among c.args.self.now.shape c.args.queue) (unanswered_is c.args.self.now T c.args.lane stands lane)
