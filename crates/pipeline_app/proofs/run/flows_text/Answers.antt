use Rattle.std.proofs.Common.{length, sym, ap, ◌∙◌}
use Rattle.std.proofs.lemmas.Bool.{false≢true}
use Rattle.pipeline_app.proofs.Finished.{finished_stray, finished_text}
use Rattle.pipeline_app.proofs.run.flows_text.Goals as goal

pub returns-clause-text : goal.returns-clause-text
returns-clause-text g c =
    c.in_ok-log_text.ensures
    ∙ finished_text c.args.pipeline.shape c.args.pipeline.actions.items c.deref-3.result.now c.args.pipeline.trace.items c.deref-2.result.now c.in-Ok.report.log.items c.deref-5.result.now c.deref-4.result.now c.len.result
    (c.len.ensures ∙ (sym c.deref-3.ensures.len ∙ ap length c.deref-3.ensures.value)) c.deref-3.ensures.value c.deref-2.ensures.value c.deref-5.ensures.value c.deref-4.ensures.value c.in-Ok.ensures.lawful c.requires.runnable.staged
    (c.in_ok-due.ensures.0 c.if-not-due.false) c.in-Ok.ensures.newcomers c.in-Ok.ensures.finished

pub returns-then-not-due-clause-fault : goal.returns-then-not-due-clause-fault
returns-then-not-due-clause-fault g c =
    finished_stray c.args.pipeline.shape c.args.pipeline.actions.items c.deref-3.result.now c.args.pipeline.trace.items c.deref-2.result.now c.in-Ok.report.log.items c.deref-4.result.now c.requires.serving c.deref-3.ensures.value
    c.deref-2.ensures.value c.deref-4.ensures.value c.in-Ok.ensures.lawful c.in-Ok.ensures.newcomers c.in-Ok.ensures.finished (λ due. false≢true (sym c.if-not-due.true ∙ c.in_ok-due.ensures.1 due))
