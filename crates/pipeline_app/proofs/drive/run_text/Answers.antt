use Rattle.std.proofs.Common.{Result, Ok, Err, ◌≡◌, All, sym, ap, subst, ◌∙◌, length, arith}
use Rattle.std.specs.Prelude.{IfErr, IsErrAnd}
use Rattle.command_line.specs.declared.fault.AppFault.{AppFault}
use Rattle.evt_types.specs.Plan.{Plan}
use Rattle.event_device.specs.Device.{Device}
use Rattle.play_documents.specs.Command.{IsPortThere}
use Rattle.pipeline_app.specs.Play.{IsEarlyFault, form_of}
use Rattle.pipeline_app.proofs.Home.{fresh_home}
use Rattle.pipeline_app.proofs.Ranges.{report_in_range, report_placed}
use Rattle.pipeline_app.proofs.drive.run_text.Goals as goal

-- what holds of an error holds of that error where it is handed on
err_same : {X : Type 0} (P : AppFault → Type 0) (r : Result X AppFault) (e : AppFault) → IsErrAnd r (λ f. f ≡ e) → P e → IfErr r P
err_same P (Ok x) e h p = tt
err_same P (Err f) e h p = subst P (sym h) p

pub returns-in_err-device-clause-fault : goal.returns-in_err-device-clause-fault
returns-in_err-device-clause-fault c known = err_same (IsEarlyFault known) c.from_residual-in_err-device.result _ c.from_residual-in_err-device.ensures.1 (c.in_err-device.ensures.fault known)

pub returns-in_err-answers-clause-fault : goal.returns-in_err-answers-clause-fault
returns-in_err-answers-clause-fault c known = err_same (IsEarlyFault known) c.from_residual-in_err-answers.result _ c.from_residual-in_err-answers.ensures.1 tt

pub obey_all-requires-clause-home : goal.obey_all-requires-clause-home
obey_all-requires-clause-home c = fresh_home _ _ c.in_ok-device.ensures.fresh

pub obey_all-requires-clause-there : goal.obey_all-requires-clause-there
obey_all-requires-clause-there c =
    rw c.deref.ensures.value (subst (λ (p : Plan). All (IsPortThere (length p.ports)) c.args.document.commands.items) (sym c.in_ok-device.ensures.fresh.plan) c.requires)

pub made_of-requires-clause-in_range : goal.made_of-requires-clause-in_range
made_of-requires-clause-in_range c =
    let stops = c.in_ok-report.ensures in
    let plan = ap (λ (d : Device). d.plan) c.in_ok-answers.ensures.device ∙ c.in_ok-device.ensures.fresh.plan in
    report_in_range c.args.document.shape c.deref-2.result.now c.obey_all.new.device.recorded c.in_ok-report.report.log.items plan (c.deref-2.ensures.value ∙ (c.in_ok-queues.ensures.items ∙ c.queues.ensures.value)) stops.report.log stops.report.rests.lawful.formed

pub made_of-requires-clause-placed : goal.made_of-requires-clause-placed
made_of-requires-clause-placed c =
    let stops = c.in_ok-report.ensures in
    let plan = ap (λ (d : Device). d.plan) c.in_ok-answers.ensures.device ∙ c.in_ok-device.ensures.fresh.plan in
    report_placed c.args.document.shape c.deref-2.result.now c.lanes-lanes.result c.obey_all.new.device.recorded c.in_ok-report.report.log.items plan (c.deref-2.ensures.value ∙ (c.in_ok-queues.ensures.items ∙ c.queues.ensures.value)) c.lanes-lanes.ensures.value stops.report.log stops.report.rests.lawful.formed

pub made_of-requires-clause-few : goal.made_of-requires-clause-few
made_of-requires-clause-few c =
    let queues = ap length (c.deref-2.ensures.value ∙ c.in_ok-queues.ensures.items) in
    omega arith

pub returns-clause-run : goal.returns-clause-run
returns-clause-run c =
    let queues = c.deref-2.ensures.value ∙ (c.in_ok-queues.ensures.items ∙ c.queues.ensures.value) in
    record {
      start = c.in_ok-device.device;
      end = c.obey_all.new.device;
      answers = c.in_ok-answers.answers.items;
      report = c.in_ok-report.report;
      fresh = c.in_ok-device.ensures.fresh;
      played = rw c.deref.ensures.value at c.in_ok-answers.ensures.answers;
      stopped = c.in_ok-report.ensures;
      written = c.in_ok-made_of.ensures c.args.document.shape queues (c.from-limit.ensures ∙ c.limit.ensures.value) c.lanes-lanes.ensures.value
          ∙ ap (λ answers. form_of c.args.form c.args.document.shape answers c.in_ok-report.report) c.deref-3.ensures.value;
    }
