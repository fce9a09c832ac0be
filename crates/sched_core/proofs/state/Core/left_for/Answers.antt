use Rattle.std.proofs.Common.{◌-◌, slice_index, ap, ◌∙◌, arith}
use Rattle.sched_core.proofs.Deals.{left_here}
use Rattle.transcripts.specs.Standing.{View}
use Rattle.sched_core.proofs.state.Core.left_for.Goals as goal

pub returns-clause-left : goal.returns-clause-left
returns-clause-left c =
    let quota = c.quota_left-quota.ensures.value ∙ ap (λ n. n - slice_index c.args.skips.now.given c.args.queue) c.sweep.ensures.value in
    left_here c.self.inside c.args.self.now c.args.skips.now c.args.queue c.places_for.result c.quota_left-quota.result c.self.invariant c.self.view_is c.requires.there
    (omega (arith, quota, c.requires.quota, ap (λ (v : View). v.shape.sweep) c.self.view_is)) c.places_for.ensures
