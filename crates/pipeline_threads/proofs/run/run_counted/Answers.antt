use Rattle.std.proofs.Common.{ℕ, sym, subst, arith}
use Rattle.event_device.proofs.Sites.{count_shown}
use Rattle.pipeline_threads.proofs.Runs.{fresh_idle}
use Rattle.pipeline_threads.proofs.Wholes.{run_log, run_works}
use Rattle.pipeline_threads.specs.Run.{AreIdle, ArePortWorks, HasRun}
use Rattle.pipeline_threads.proofs.run.run_counted.Goals as goal

pub run_threads-requires-clause-idle : goal.run_threads-requires-clause-idle
run_threads-requires-clause-idle g c κs within =
    let count = count_shown c.args.shape c.ports-ports.result.now c.ports-ports.ensures in
    subst (λ n. AreIdle n c.in_ok-device.device) (sym count) (fresh_idle c.args.shape c.in_ok-device.device c.in_ok-device.ensures)

pub returns-in-Ok : goal.returns-in-Ok
returns-in-Ok g c =
    let actions = c.args.actions.now in
    let trace = c.args.trace.now in
    let before = c.in_ok-device.device in
    let after = c.in_ok-device-2.device in
    let Ran : ℕ → Type 0 = λ n. HasRun actions trace n before after in
    let count = count_shown c.args.shape c.ports-ports.result.now c.ports-ports.ensures in
    let ran = subst Ran count c.in_ok-device-2.ensures.ran in
    let were = subst (λ n. ArePortWorks n after c.in_ok-device-2.work.ports.items) count c.in_ok-device-2.ensures.works in
    let log = run_log g.L.StepLog.steps c.args.shape actions trace before after c.in-Ok.report c.in_ok-device.ensures (omega arith) ran c.in-Ok.ensures.stopped in
    let works =
    run_works g.L.StepLog.steps c.args.shape actions trace before after c.in-Ok.report c.in_ok-device-2.work.ports.items c.in_ok-device.ensures (omega arith) ran were c.in-Ok.ensures.stopped in
    record { lawful = log.lawful; answers = log.answers; newcomers = log.newcomers; finished = log.finished; works = works }
