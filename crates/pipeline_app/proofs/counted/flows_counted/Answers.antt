use Rattle.std.proofs.Common.{length, sym, ap, subst, ◌∙◌, Vec, Global}
use Rattle.std.proofs.lemmas.Bool.{false≢true}
use Rattle.evt_types.specs.declared.step.Step.{Step}
use Rattle.run_documents.specs.Pipelines.{planned_of}
use Rattle.pipeline_app.proofs.Finished.{finished_counts, finished_stray, finished_text}
use Rattle.pipeline_app.specs.Runs.{Strays}
use Rattle.pipeline_app.proofs.counted.flows_counted.Goals as goal

pub returns-then-not-due-clause-fault : goal.returns-then-not-due-clause-fault
returns-then-not-due-clause-fault g c =
    let ran = c.in-Ok-run_counted.ensures in
    let same = ap (λ (v : Vec Step Global). v.items) c.into_log-log.ensures in
    subst (Strays (planned_of c.args.pipeline)) (sym same)
    (finished_stray c.args.pipeline.shape c.args.pipeline.actions.items c.deref-3.result.now c.args.pipeline.trace.items c.deref-2.result.now c.in-Ok-run_counted.ran.0.log.items c.deref-4.result.now c.requires.serving
    c.deref-3.ensures.value c.deref-2.ensures.value (c.deref-4.ensures.value ∙ same) ran.lawful ran.newcomers ran.finished (λ due. false≢true (sym c.if-not-due.true ∙ c.in_ok-due.ensures.1 due)))

pub returns-clause-text : goal.returns-clause-text
returns-clause-text g c =
    let ran = c.in-Ok-run_counted.ensures in
    let same = ap (λ (v : Vec Step Global). v.items) c.into_log-log.ensures in
    c.in_ok-text.ensures
    ∙ finished_text c.args.pipeline.shape c.args.pipeline.actions.items c.deref-3.result.now c.args.pipeline.trace.items c.deref-2.result.now c.in-Ok-run_counted.ran.0.log.items c.deref-5.result.now c.deref-4.result.now
    c.len.result (c.len.ensures ∙ (sym c.deref-3.ensures.len ∙ ap length c.deref-3.ensures.value)) c.deref-3.ensures.value c.deref-2.ensures.value (c.deref-5.ensures.value ∙ same) (c.deref-4.ensures.value ∙ same)
    ran.lawful c.requires.runnable.staged (c.in_ok-due.ensures.0 c.if-not-due.false) ran.newcomers ran.finished

pub returns-clause-counts : goal.returns-clause-counts
returns-clause-counts g c =
    let ran = c.in-Ok-run_counted.ensures in
    let same = ap (λ (v : Vec Step Global). v.items) c.into_log-log.ensures in
    finished_counts (planned_of c.args.pipeline) c.deref-3.result.now c.deref-2.result.now c.in-Ok-run_counted.ran.0.log.items c.deref-4.result.now _ c.counts_of-counts.result c.in-Ok-run_counted.ran.1
    (ap length c.queues-queues.ensures.value) c.deref-3.ensures.value c.deref-2.ensures.value (c.deref-4.ensures.value ∙ same) ran.lawful (c.in_ok-due.ensures.0 c.if-not-due.false) ran.newcomers ran.finished
    c.counts_of-counts.ensures.queues c.counts_of-counts.ensures.threads ran.works
