-- A finished log's text is that of the plain pipeline, where it didn't stray.
use Rattle.std.proofs.Common.{◌≡◌, ℕ, List, length, map, ap, subst, ◌∙◌, sym}
use Rattle.evt_types.specs.Plan.{Plan}
use Rattle.evt_types.specs.declared.draft.Serving.TheVariants.{Flows}
use Rattle.evt_types.specs.declared.step.Step.{Step}
use Rattle.pipeline_laws.proofs.RunTexts.{text_is_plain}
use Rattle.pipeline_laws.specs.RunText.{plain_text, run_text}
use Rattle.pipeline_laws.specs.Worked.{AnswersAreDue, IsFinished, IsStaged, logged, new_event, newcomers}
use Rattle.pipeline_laws.specs.declared.stage.Action.{Action}
use Rattle.pipeline_laws.specs.declared.stage.Entry.{Entry}
use Rattle.transcripts.specs.Lawful.{IsPrefix, Lawful}
use Rattle.transcripts.specs.Laws.{AddsNone}
use Rattle.pipeline_app.specs.Runs.{AreRunCounts, Strays}
use Rattle.pipeline_threads.specs.Run.{AreWorks}
use Rattle.run_counts.specs.Waiting.{AreWorksOf}
use Rattle.run_counts.specs.declared.looks.ThreadWork.{ThreadWork}
use Rattle.run_counts.specs.declared.text.Counts.{Counts}
use Rattle.run_documents.specs.Pipelines.{Planned}

-- the same actions and the same log
due_same : (actions others : List Action) (T U : List Step) → actions ≡ others → T ≡ U → AddsNone T × AnswersAreDue actions T → AddsNone U × AnswersAreDue others U
due_same actions others T U a t h = subst (λ S. AddsNone S × AnswersAreDue others S) t (subst (λ xs. AddsNone T × AnswersAreDue xs T) a h)

pub finished_text : (p : Plan) (actions others : List Action) (trace entries : List Entry) (T U V : List Step) (n : ℕ) → n ≡ length actions → others ≡ actions → entries ≡ trace → U ≡ T → V ≡ T
    → Lawful p T → IsStaged p actions → AddsNone V × AnswersAreDue others V → IsPrefix (newcomers T) (map new_event entries) → IsFinished p entries T → run_text n (logged U) ≡ plain_text actions trace
finished_text p actions others trace entries T U V n count a e u v lawful staged answers news finished =
    let same = due_same others actions V T a v answers in
    ap (λ k. run_text k (logged U)) count
    ∙ (ap (λ S. run_text (length actions) (logged S)) u
    ∙ text_is_plain p actions trace T lawful staged
    (record { answers = same.1; adds_none = same.0; newcomers = subst (λ ts. IsPrefix (newcomers T) (map new_event ts)) e news })
    (subst (λ ts. IsFinished p ts T) e finished))

-- the answers of a finished log aren't due
pub finished_stray : (p : Plan) (actions others : List Action) (trace entries : List Entry) (T V : List Step) → p.serving ≡ Flows → others ≡ actions → entries ≡ trace → V ≡ T
    → Lawful p T → IsPrefix (newcomers T) (map new_event entries) → IsFinished p entries T → (AddsNone V × AnswersAreDue others V → ⊥) → Strays (record { plan = p; actions = actions; trace = trace }) T
finished_stray p actions others trace entries T V flows a e v lawful news finished strayed =
    record {
      flows = flows;
      lawful = lawful;
      newcomers = subst (λ ts. IsPrefix (newcomers T) (map new_event ts)) e news;
      finished = subst (λ ts. IsFinished p ts T) e finished;
      strayed = λ due. strayed (due_same actions others T V (sym a) (sym v) due);
    }

-- the counts of a finished log are those of a run
pub finished_counts : (p : Planned) (others : List Action) (entries : List Entry) (T V : List Step) (n : ℕ) (c : Counts) (threads : ThreadWork) → n ≡ length p.plan.queues → others ≡ p.actions
    → entries ≡ p.trace → V ≡ T → Lawful p.plan T → AddsNone V × AnswersAreDue others V → IsPrefix (newcomers T) (map new_event entries) → IsFinished p.plan entries T → AreWorksOf T n c.queues.items
    → c.threads ≡ threads → AreWorks p.plan T threads.ports.items → AreRunCounts p c
finished_counts p others entries T V n c threads count a e v lawful answers news finished queues same ports =
    let due = due_same others p.actions V T a v answers in
    record {
      log = T;
      lawful = lawful;
      worked = record { answers = due.1; adds_none = due.0; newcomers = subst (λ ts. IsPrefix (newcomers T) (map new_event ts)) e news };
      finished = subst (λ ts. IsFinished p.plan ts T) e finished;
      queues = subst (λ k. AreWorksOf T k c.queues.items) count queues;
      ports = subst (λ (t : ThreadWork). AreWorks p.plan T t.ports.items) (sym same) ports;
    }
