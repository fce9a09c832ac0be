-- The text of a run by what came to each stage, flow and level.
use Rattle.std.proofs.Common.{◌≡◌, ℕ, ◌<◌, ◌^◌, List, length, get_or, ap, ◌∙◌, subst, arith}
use Rattle.std.specs.List.{range_with_len}
use Rattle.std.proofs.lemmas.List.FromFn.{length-range_with_len, get_or-range_with_len}
use Rattle.evt_types.specs.Plan.{Plan}
use Rattle.evt_types.specs.declared.event.Event.{Event}
use Rattle.evt_types.specs.declared.step.Step.{Step}
use Rattle.lists.proofs.Lists.{flat_map-agree}
use Rattle.pipeline_laws.proofs.Stages.{run_is_plain}
use Rattle.pipeline_laws.specs.Past.{HoldAccepted, row, rows}
use Rattle.pipeline_laws.specs.Pipeline.{plain}
use Rattle.pipeline_laws.specs.RunText.{between, flow_text, line_of, payloads_of, plain_text, run_text, stage_text}
use Rattle.pipeline_laws.specs.Worked.{IsFinished, IsStaged, IsWorked, logged}
use Rattle.pipeline_laws.specs.declared.stage.Action.{Action}
use Rattle.pipeline_laws.specs.declared.stage.Entry.{Entry}
use Rattle.std.specs.declared.alloc.Global.{Global}
use Rattle.std.specs.declared.vec.Vec.{Vec}
use Rattle.transcripts.specs.Lawful.{Lawful}

-- stages of which all flows and levels agree have one text
stage_same : (k : ℕ) (first second : ℕ → ℕ → ℕ → List ℕ) → ((f c : ℕ) → first k f c ≡ second k f c) → stage_text first k ≡ stage_text second k
stage_same k first second same =
    flat_map-agree (flow_text k (first k)) (flow_text k (second k)) (between 0 (2 ^ 20))
    (λ i d lt. flat_map-agree (λ c. line_of k (get_or (between 0 (2 ^ 20)) i d) c (first k (get_or (between 0 (2 ^ 20)) i d) c))
    (λ c. line_of k (get_or (between 0 (2 ^ 20)) i d) c (second k (get_or (between 0 (2 ^ 20)) i d) c)) (range_with_len 0 4)
    (λ j e below. ap (line_of k (get_or (between 0 (2 ^ 20)) i d) (get_or (range_with_len 0 4) j e)) (same (get_or (between 0 (2 ^ 20)) i d) (get_or (range_with_len 0 4) j e))))

text_same : (stages : ℕ) (first second : ℕ → ℕ → ℕ → List ℕ) → ((k f c : ℕ) → k < stages → first k f c ≡ second k f c) → run_text stages first ≡ run_text stages second
text_same stages first second same =
    flat_map-agree (stage_text first) (stage_text second) (range_with_len 0 stages)
    (λ i d lt. stage_same (get_or (range_with_len 0 stages) i d) first second
    (λ f c. same (get_or (range_with_len 0 stages) i d) f c (within i d (subst (λ n. i < n) (length-range_with_len 0 stages) lt))))
  where
    within : (i d : ℕ) → i < stages → get_or (range_with_len 0 stages) i d < stages
    within i d lt = omega (arith, get_or-range_with_len 0 stages i d lt)

pub text_is_plain : (p : Plan) (actions : List Action) (trace : List Entry) (T : List Step) → Lawful p T → IsStaged p actions → IsWorked actions trace T
    → IsFinished p trace T → run_text (length actions) (logged T) ≡ plain_text actions trace
text_is_plain p actions trace T lawful staged worked finished =
    text_same (length actions) (logged T) (plain actions trace) (run_is_plain p actions trace T lawful staged worked finished)

-- lists of what the stages accepted have the text of the steps
pub text_of_lists : (T : List Step) (lists : List (Vec Event Global)) (stages : ℕ) → length lists ≡ stages → HoldAccepted T lists
    → run_text (length lists) (λ k. payloads_of (row (rows lists) k)) ≡ run_text stages (logged T)
text_of_lists T lists stages count hold =
    text_same (length lists) (λ k. payloads_of (row (rows lists) k)) (logged T) (λ k f c low. ap (λ es. payloads_of es f c) (hold k low))
    ∙ ap (λ n. run_text n (logged T)) count
