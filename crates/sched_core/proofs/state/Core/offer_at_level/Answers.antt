use Rattle.sched_core.proofs.FirstOnes.{slots_within}
use Rattle.sched_core.proofs.Offers.{none_in}
use Rattle.sched_core.specs.Offered.{slot_at}
use Rattle.sched_core.proofs.state.Core.offer_at_level.Goals as goal

pub returns-then-is_empty-2-clause-none : goal.returns-then-is_empty-2-clause-none
returns-then-is_empty-2-clause-none c =
    none_in c.args.self.now c.args.skips.now c.args.queue c.args.level.number c.args.allowed c.requires.allowed (slots_within c.args.self.now c.args.queue c.facts.ensures.limits c.requires.queue)
    (λ w waits level has. absurd (c.is_empty-2.ensures.0 c.if-is_empty-2.true (slot_at c.args.self.now c.args.queue w) has))
