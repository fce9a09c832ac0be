use Rattle.std.proofs.Common.{sym, ◌∙◌, arith}
use Rattle.evt_types.specs.declared.step.Outcome.TheVariants.{Released}
use Rattle.sched_core.proofs.Steps.{settled_view}
use Rattle.sched_core.specs.Inner.{unplaced}
use Rattle.sched_core.proofs.state.Core.take_release.Goals as goal

pub answer-queue-requires-clause-entries : goal.answer-queue-requires-clause-entries
answer-queue-requires-clause-entries g c = omega (arith, c.facts.ensures.few)

pub returns-then-restores_order-clause-view : goal.returns-then-restores_order-clause-view
returns-then-restores_order-clause-view g c = settled_view c.args.self.now c.answer-queue.new.self c.args.lane (unplaced c.answer-queue.result) Released c.answer-queue.ensures.oldest c.answer-queue.ensures.view c.answer-queue.ensures.places (sym c.restores_order.ensures ∙ c.if-restores_order.true) c.settle.new.self c.settle.ensures.view
