use Rattle.std.proofs.Common.{length, refl, sym, ap, ◌∙◌}
use Rattle.run_documents.specs.Pipelines.{planned_of}
use Rattle.pipeline_app.proofs.Finished.{finished_counts, finished_text}
use Rattle.pipeline_app.proofs.counted.ports_counted.Goals as goal

pub returns-clause-text : goal.returns-clause-text
returns-clause-text g c =
    let ran = c.in-Ok-run_counted.ensures in
    c.in_ok-text.ensures
    ∙ finished_text c.args.pipeline.shape c.args.pipeline.actions.items c.deref.result.now c.args.pipeline.trace.items c.deref-2.result.now _ _ _ c.len.result
    (c.len.ensures ∙ (sym c.deref.ensures.len ∙ ap length c.deref.ensures.value)) c.deref.ensures.value c.deref-2.ensures.value (cc c.log.ensures) refl ran.lawful c.requires.runnable.staged
    (ran.answers c.requires.serving) ran.newcomers ran.finished

pub returns-clause-counts : goal.returns-clause-counts
returns-clause-counts g c =
    let ran = c.in-Ok-run_counted.ensures in
    finished_counts (planned_of c.args.pipeline) c.deref.result.now c.deref-2.result.now _ _ _ c.counts_of-counts.result c.in-Ok-run_counted.ran.1 (ap length c.queues-queues.ensures.value) c.deref.ensures.value
    c.deref-2.ensures.value refl ran.lawful (ran.answers c.requires.serving) ran.newcomers ran.finished c.counts_of-counts.ensures.queues c.counts_of-counts.ensures.threads ran.works
