use Rattle.std.proofs.Common.{rules, ◌≡◌, ◌+◌, ap, arith, length, refl, subst, take, ◌∙◌}
use Rattle.std.proofs.lemmas.List.{length-drop}
use Rattle.event_scheduler.specs.Taking.{Takes, only, with_core, with_taken}
use Rattle.event_scheduler.proofs.Rows.{none_taken, rest_is, row_behind}
use Rattle.event_scheduler.proofs.take.take_rows.Goals as goal

pub loop-taken-init : goal.loop-taken-init
loop-taken-init g c = (
  λ s pocket fits within. none_taken s c.args.lane pocket c.args.accepted_new.now c.args.replies.now c.args.core.now (g.L.StepLog.steps c.args.log.now) within,
  omega arith,
  refl,
  refl,
  omega arith,
)

pub loop-taken-preserved : goal.loop-taken-preserved
loop-taken-preserved g c = (
  λ s pocket fits within.
      row_behind s c.args.lane c.loop-taken.taken c.take_row-row.result c.args.replies.now c.args.core.now c.loop-taken.core c.take_row-row.new.core pocket c.args.accepted_new.now c.loop-taken.accepted_new c.take_row-row.new.accepted_new
      (g.L.StepLog.steps c.args.log.now) (g.L.StepLog.steps c.loop-taken.log) (g.L.StepLog.steps c.take_row-row.new.log) within fits (search rules) c.take_row-row.ensures.few (c.loop-taken.invariant.0 s pocket fits within)
      c.take_row-row.ensures.may c.take_row-row.ensures.view c.take_row-row.ensures.logged c.take_row-row.ensures.turned c.take_row-row.ensures.accepted,
  omega (arith, c.take_row-row.ensures.few, ap length (rest_is c.loop-taken.taken c.args.replies.now), length-drop c.loop-taken.taken c.args.replies.now, c.loop-taken.invariant.1),
  c.take_row-row.ensures.shape ∙ c.loop-taken.invariant.2,
  c.take_row-row.ensures.kept ∙ c.loop-taken.invariant.3,
  omega (arith, c.loop-taken.invariant.4, c.take_row-row.ensures.room),
)

pub returns-then-row-eq0-clause-takes : goal.returns-then-row-eq0-clause-takes
returns-then-row-eq0-clause-takes g c s pocket fits within =
    let none : c.loop-taken.taken + c.take_row-row.result ≡ c.loop-taken.taken = omega (arith, c.if-row-eq0.true) in
    subst (λ j. Takes (only c.args.lane j) j (with_core s c.args.core.now pocket c.args.accepted_new.now) (g.L.StepLog.steps c.args.log.now) (with_core (with_taken s c.args.lane (take j c.args.replies.now)) c.take_row-row.new.core pocket c.take_row-row.new.accepted_new) (g.L.StepLog.steps c.take_row-row.new.log)) none
    (row_behind s c.args.lane c.loop-taken.taken c.take_row-row.result c.args.replies.now c.args.core.now c.loop-taken.core c.take_row-row.new.core pocket c.args.accepted_new.now c.loop-taken.accepted_new c.take_row-row.new.accepted_new
    (g.L.StepLog.steps c.args.log.now) (g.L.StepLog.steps c.loop-taken.log) (g.L.StepLog.steps c.take_row-row.new.log) within fits (search rules) c.take_row-row.ensures.few (c.loop-taken.invariant.0 s pocket fits within)
    c.take_row-row.ensures.may c.take_row-row.ensures.view c.take_row-row.ensures.logged c.take_row-row.ensures.turned c.take_row-row.ensures.accepted)
