use Rattle.std.proofs.Common.{length, refl, sym, ap, ◌∙◌}
use Rattle.pipeline_app.proofs.Finished.{finished_text}
use Rattle.pipeline_app.proofs.run.ports_text.Goals as goal

pub returns-clause-text : goal.returns-clause-text
returns-clause-text g c =
    c.in_ok-accepted_text.ensures
    ∙ finished_text c.args.pipeline.shape c.args.pipeline.actions.items c.deref.result.now c.args.pipeline.trace.items c.deref-2.result.now _ _ _ c.len.result
    (c.len.ensures ∙ (sym c.deref.ensures.len ∙ ap length c.deref.ensures.value)) c.deref.ensures.value c.deref-2.ensures.value refl refl c.in-Ok.ensures.lawful c.requires.runnable.staged
    (c.in-Ok.ensures.answers c.requires.serving) c.in-Ok.ensures.newcomers c.in-Ok.ensures.finished
