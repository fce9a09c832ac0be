use Rattle.std.proofs.Common.{sym, ◌∙◌}
use Rattle.transcripts.specs.Choice.{HasNoChoice}
use Rattle.sched_core.proofs.Offers.{offer_keeps, offers, some_here}
use Rattle.sched_core.proofs.state.Core.propose_next.Goals as goal

pub returns-then-is_some-clause-none : goal.returns-then-is_some-clause-none
returns-then-is_some-clause-none c = some_here c.offer_at-offer.result (HasNoChoice c.args.self.now c.args.skips.now) (sym c.is_some.ensures ∙ c.if-is_some.true)

pub returns-then-is_some-clause-offer : goal.returns-then-is_some-clause-offer
returns-then-is_some-clause-offer c = offers c.args.self.now c.args.skips.now c.offer_at-offer.result c.offer_at-offer.ensures.choice

pub returns-then-is_some-clause-keeps : goal.returns-then-is_some-clause-keeps
returns-then-is_some-clause-keeps c T stands = offer_keeps c.args.self.now c.offer_at-offer.result T stands (returns-then-is_some-clause-offer c)
