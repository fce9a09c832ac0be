use Rattle.pipeline_app.proofs.Writing.{after_whole, after_write}
use Rattle.pipeline_app.specs.Play.{form_of}
use Rattle.pipeline_app.proofs.drive.play_as.Goals as goal

pub returns-clause-err : goal.returns-clause-err
returns-clause-err g c =
    after_write (form_of c.args.form) (g.R.Read.remaining c.args.reader.now) (g.W.Write.contents c.args.writer.now) (g.W.Write.contents c.write_text.new.writer) _ c.as_bytes.result.now c.write_text.result c.in_ok-text.ensures.run c.as_bytes.ensures.value c.write_text.ensures.err

pub returns-clause-ok : goal.returns-clause-ok
returns-clause-ok g c =
    after_whole (form_of c.args.form) (g.R.Read.remaining c.args.reader.now) (g.W.Write.contents c.args.writer.now) (g.W.Write.contents c.write_text.new.writer) _ c.as_bytes.result.now c.write_text.result c.in_ok-text.ensures.run c.as_bytes.ensures.value c.write_text.ensures.ok
