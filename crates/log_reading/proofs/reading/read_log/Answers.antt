use Rattle.std.proofs.Common.{◌≡◌, sym, subst}
use Rattle.std.proofs.lemmas.Result.{err_from_is_err_and}
use Rattle.log_reading.specs.Logs.{AreSteps}
use Rattle.log_reading.proofs.Begins.{begins_unique}
use Rattle.log_reading.proofs.Stepping.{fails-same}
use Rattle.log_reading.proofs.reading.read_log.Goals as goal

pub returns-in_err-steps-clause-only : goal.returns-in_err-steps-clause-only
returns-in_err-steps-clause-only c = λ T line all log.
    let same = begins_unique c.args.text.now c.in-Some.line line c.in-Some.behind.now log.behind c.in-Some.ensures.begin log.begin in
    let p = err_from_is_err_and c.from_residual.result c.from_residual.ensures.1 in
    rw (p.1, p.2) (fails-same c.in_err-steps.field-0.0 _ _ (c.in_err-steps.ensures.only T all (subst (λ b. AreSteps c.args.queues.now b T) (sym same.1) log.steps)))

pub returns-clause-only : goal.returns-clause-only
returns-clause-only c = λ T line all log.
    let same = begins_unique c.args.text.now c.in-Some.line line c.in-Some.behind.now log.behind c.in-Some.ensures.begin log.begin in
    (c.in_ok-steps.ensures.only T all (subst (λ b. AreSteps c.args.queues.now b T) (sym same.1) log.steps), same.0)
