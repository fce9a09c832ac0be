use Rattle.std.proofs.Common.{List, ◌++◌, ap, subst, sym, ◌∙◌, length}
use Rattle.evt_types.specs.declared.event.Delivery.{Delivery}
use Rattle.sched_core.proofs.Runs.{row_logged}
use Rattle.sched_core.specs.Runs.{AreChoices, given_times}
use Rattle.step_log.specs.Gives.{gives_of}
use Rattle.sched_core.proofs.state.Core.give_row.Goals as goal

pub returns-clause-choices : goal.returns-clause-choices
returns-clause-choices g c =
    subst (AreChoices c.args.lane c.args.self.now c.args.skips.now c.hand_row.new.run.items c.hand_row.new.self)
    (sym (c.given_row.ensures.value ∙ ap (λ (ds : List Delivery). given_times c.args.skips.now c.args.queue (length ds)) c.as_slice-row.ensures.value)) c.hand_row.ensures.choices

pub returns-clause-logged : goal.returns-clause-logged
returns-clause-logged g c =
    row_logged c.args.lane c.args.queue c.min-bound.result c.args.self.now c.args.skips.now c.hand_row.new.run.items c.hand_row.new.self (g.L.StepLog.steps c.args.log.now) (g.L.StepLog.steps c.push_gives.new.self) c.hand_row.ensures
    (c.push_gives.ensures.steps ∙ ap (λ ds. g.L.StepLog.steps c.args.log.now ++ gives_of c.args.lane c.args.queue ds) c.as_slice-row.ensures.value)
