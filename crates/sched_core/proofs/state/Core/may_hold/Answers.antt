use Rattle.std.proofs.Common.{◌≡◌, ◌↔◌, true, map, IsTrue, sym, ◌∙◌, subst}
use Rattle.transcripts.specs.Choice.{HasNoOther}
use Rattle.evt_types.specs.Plan.{queue_of, is_atomic}
use Rattle.transcripts.specs.Standing.{View}
use Rattle.sched_core.proofs.Pinned.{may_is_alone, alone_may}
use Rattle.sched_core.specs.View.{unanswered_in}
use Rattle.sched_core.proofs.Cores.{queue_there}
use Rattle.sched_core.proofs.state.Core.may_hold.Goals as goal

pub returns : goal.returns
returns c =
    let a = c.self.inside in
    let queue = queue_there c.self.inside c.args.self.now c.args.queue c.self.view_is c.requires in
    subst (λ (v : View). IsTrue c.may.result ↔ (is_atomic (queue_of v.shape c.args.queue).kind ≡ true → HasNoOther v c.args.lane c.args.queue c.args.slot)) c.self.view_is (
      λ may. may_is_alone a.shape (map unanswered_in a.lanes) a.pins c.args.queue c.args.slot c.args.lane c.self.invariant.pins (sym c.may.ensures ∙ may),
      λ alone. c.may.ensures ∙ alone_may a.shape (map unanswered_in a.lanes) a.pins c.args.queue c.args.slot c.args.lane c.self.invariant.pins queue alone,
    )
