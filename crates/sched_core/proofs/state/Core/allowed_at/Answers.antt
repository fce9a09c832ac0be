use Rattle.std.proofs.Common.{arith}
use Rattle.transcripts.specs.Standing.{View}
use Rattle.sched_core.proofs.News.{slots_range}
use Rattle.sched_core.proofs.Offers.{all_allowed}
use Rattle.sched_core.proofs.Cores.{limits_here}
use Rattle.sched_core.proofs.state.Core.allowed_at.Goals as goal

pub returns-then-is_empty-clause-allowed : goal.returns-then-is_empty-clause-allowed
returns-then-is_empty-clause-allowed c =
    let v : View = c.args.self.now in
    let limits = limits_here c.self.inside v c.self.invariant c.self.view_is in
    let few = (slots_range v.shape c.args.queue limits c.requires.queue).1 in
    all_allowed v c.args.skips.now c.args.queue c.below.result (λ slot within. (c.below.ensures slot).1 (omega (arith, few, within)))
