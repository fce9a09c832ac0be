use Rattle.std.proofs.Common.{sym, ◌∙◌}
use Rattle.evt_types.specs.declared.step.Outcome.TheVariants.{Forwarded}
use Rattle.sched_core.proofs.Steps.{settled_log, settled_view}
use Rattle.sched_core.specs.Inner.{unplaced}
use Rattle.sched_core.proofs.state.Core.take_forward.Goals as goal

pub returns-then-passed-clause-view : goal.returns-then-passed-clause-view
returns-then-passed-clause-view g c = settled_view c.args.self.now c.answer-queue.new.self c.args.lane (unplaced c.answer-queue.result) (Forwarded c.args.event.now) c.answer-queue.ensures.oldest c.answer-queue.ensures.view c.answer-queue.ensures.places (sym c.restores_order.ensures ∙ c.if-restores_order.true) c.settle-passed.new.self c.settle-passed.ensures.view

pub returns-then-passed-clause-logged : goal.returns-then-passed-clause-logged
returns-then-passed-clause-logged g c = settled_log c.args.self.now c.answer-queue.new.self c.args.lane (unplaced c.answer-queue.result) (Forwarded c.args.event.now) c.answer-queue.ensures.oldest c.answer-queue.ensures.view c.answer-queue.ensures.places (sym c.restores_order.ensures ∙ c.if-restores_order.true) _ _ _ c.answer-queue.ensures.logged c.settle-passed.ensures.logged

pub returns-else-passed-clause-view : goal.returns-else-passed-clause-view
returns-else-passed-clause-view g c = settled_view c.args.self.now c.answer-queue.new.self c.args.lane (unplaced c.answer-queue.result) (Forwarded c.args.event.now) c.answer-queue.ensures.oldest c.answer-queue.ensures.view c.answer-queue.ensures.places (sym c.restores_order.ensures ∙ c.if-restores_order.true) c.settle-passed.new.self c.settle-passed.ensures.view

pub returns-else-passed-clause-logged : goal.returns-else-passed-clause-logged
returns-else-passed-clause-logged g c = settled_log c.args.self.now c.answer-queue.new.self c.args.lane (unplaced c.answer-queue.result) (Forwarded c.args.event.now) c.answer-queue.ensures.oldest c.answer-queue.ensures.view c.answer-queue.ensures.places (sym c.restores_order.ensures ∙ c.if-restores_order.true) _ _ _ c.answer-queue.ensures.logged c.settle-passed.ensures.logged
