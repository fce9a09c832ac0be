use Rattle.std.proofs.Common.{string_bytes}
use Rattle.pipeline_app.proofs.Forms.{of_json, of_picture, of_text}
use Rattle.pipeline_app.proofs.form.made_of.Goals as goal

pub returns-in-Text : goal.returns-in-Text
returns-in-Text c p queues limit lanes = of_text (λ text. string_bytes text) c.args.form p _ _ _ c.text_of.result _ c.in-Text.is queues limit c.text_of.ensures

pub returns-in-Json : goal.returns-in-Json
returns-in-Json c p queues limit lanes = of_json (λ text. string_bytes text) c.args.form p _ _ _ c.json_of.result _ c.in-Json.is queues limit c.json_of.ensures

pub returns-in-Picture : goal.returns-in-Picture
returns-in-Picture c p queues limit lanes = of_picture (λ text. string_bytes text) c.args.form p _ _ _ c.timeline.result _ _ c.in-Picture.is queues lanes c.deref.ensures.value c.timeline.ensures
