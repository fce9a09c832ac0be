-- What a form makes of a run is made of the queues, the limit and the lanes of its configuration.
use Rattle.std.proofs.Common.{◌≡◌, ℕ, List, Result, sym, subst, Vec, Global}
use Rattle.std.specs.Prelude.{IfOk}
use Rattle.event_answers.specs.declared.report.Report.{Report}
use Rattle.evt_types.specs.Plan.{Plan, lanes_of}
use Rattle.evt_types.specs.declared.draft.QueueDraft.{QueueDraft}
use Rattle.evt_types.specs.declared.step.Step.{Step}
use Rattle.json_lines.specs.Lines.{json_text}
use Rattle.play_text.specs.Text.{text_of}
use Rattle.play_text.specs.declared.answer.Answer.{Answer}
use Rattle.timelines.specs.Picture.{picture}
use Rattle.pipeline_app.specs.Play.{form_of}
use Rattle.pipeline_app.specs.declared.form.Form.{Form}
use Rattle.pipeline_app.specs.declared.form.Form.TheVariants.{Json, Picture, Text}

module _ {X E : Type 0} (of : X → List ℕ) (form : Form) (p : Plan) (qs : List QueueDraft) (answers : List Answer) (report : Report (Vec Step Global)) (r : Result X E) where
  abbrev pub Is : List ℕ → Type 0
  Is bytes = IfOk r (λ x. of x ≡ bytes)

  pub of_text : (limit : ℕ) → form ≡ Text → qs ≡ p.queues → limit ≡ p.limit → Is (text_of qs limit answers report) → Is (form_of form p answers report)
  of_text limit text queues same h =
      subst (λ f. Is (form_of f p answers report)) (sym text) (subst (λ n. Is (text_of p.queues n answers report)) same (subst (λ xs. Is (text_of xs limit answers report)) queues h))

  pub of_json : (limit : ℕ) → form ≡ Json → qs ≡ p.queues → limit ≡ p.limit → Is (json_text qs limit answers report) → Is (form_of form p answers report)
  of_json limit json queues same h =
      subst (λ f. Is (form_of f p answers report)) (sym json) (subst (λ n. Is (json_text p.queues n answers report)) same (subst (λ xs. Is (json_text xs limit answers report)) queues h))

  pub of_picture : (ls : ℕ) (log : List Step) → form ≡ Picture → qs ≡ p.queues → ls ≡ lanes_of p → log ≡ report.log.items → Is (picture qs ls log) → Is (form_of form p answers report)
  of_picture ls log pictured queues lanes same h =
      subst
      (λ f. Is (form_of f p answers report))
      (sym pictured)
      (subst (λ T. Is (picture p.queues (lanes_of p) T)) same (subst (λ n. Is (picture p.queues n log)) lanes (subst (λ xs. Is (picture xs ls log)) queues h)))
