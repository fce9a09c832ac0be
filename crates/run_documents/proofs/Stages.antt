-- What the stages of a document without a fault are: all but the last keep an order, and no action divides by 0.
use Rattle.std.proofs.Common.{◌≡◌, ℕ, ◌+◌, ◌-◌, ◌<◌, ◌^◌, Bool, true, false, cond, eqb, ◌||◌, List, [], ◌∷◌, length, map, take, slice_index_or, codes, Option, Some, None, refl, sym, ap, ◌∙◌, arith}
use Rattle.std.specs.Prelude.{IfSome, All, option_and_then, option_map}
use Rattle.std.specs.List.{AllByRecursion, slice_split}
use Rattle.std.proofs.lemmas.Bool.{eqb-false, false_from_ne_true, false≢true}
use Rattle.std.proofs.lemmas.List.{get_or-map, get_or-take, length-map, length-take}
use Rattle.std.proofs.lemmas.List.Elements.{All-from_recursion}
use Rattle.std.proofs.lemmas.List.Folds.{list_any_at}
use Rattle.evt_types.specs.Plan.{is_atomic, is_ordered, queue_of}
use Rattle.evt_types.specs.declared.event.Kind.{Kind}
use Rattle.evt_types.specs.declared.event.Kind.TheVariants.{Ordered, Atomic, Parallel}
use Rattle.pipeline_laws.specs.Pipeline.{IsProper}
use Rattle.pipeline_laws.specs.Worked.{IsStaged}
use Rattle.pipeline_laws.specs.declared.stage.Action.{Action}
use Rattle.pipeline_laws.specs.declared.stage.Action.TheVariants.{Pass, Add, DropMultiples}
use Rattle.play_documents.specs.Field.{field_map, good_or_bad, is_text, rows, text_at, tables_at, value_or}
use Rattle.play_documents.specs.Judge.{rows_fault}
use Rattle.play_documents.specs.Survey.{by_name}
use Rattle.play_documents.specs.Words.{number}
use Rattle.play_documents.specs.declared.fault.DocFault.{DocFault}
use Rattle.play_documents.specs.declared.fault.DocFault.TheVariants as doc
use Rattle.play_documents.specs.declared.field.Field.{Field}
use Rattle.play_documents.specs.declared.field.Field.TheVariants.{Absent, Bad, Good}
use Rattle.run_documents.specs.Actions.{action_in, action_named, action_of, adds, drop_by, drops}
use Rattle.run_documents.specs.Drafts.{actions_asked, plan_asked, stage_asked}
use Rattle.run_documents.specs.Judge.{action_asked, first_fault, has_bad, has_last_action, has_missing, has_parallel_inside, has_unknown, is_parallel, is_parallel_kind, or_fault, stages_fault}
use Rattle.run_documents.specs.Survey.{SurveySeen, stage_row, survey_of}
use Rattle.run_documents.specs.declared.survey.StageRow.{StageRow}
use Rattle.toml.specs.Data.{Members}

-- ---- the rows' tests

none_after : (o p : Option DocFault) → or_fault o p ≡ None → p ≡ None
none_after None p e = e
none_after (Some f) p e = absurd cc

none_inside : (p l : Bool) → cond p (Some doc.ParallelInside) (cond l (Some doc.LastAction) None) ≡ None → p ≡ false
none_inside true l e = absurd cc
none_inside false l e = refl

good_rows : (s : SurveySeen) → first_fault s ≡ None → has_parallel_inside (rows s.stages) ≡ false
unfolding first_fault
good_rows s e =
    none_inside (has_parallel_inside (rows s.stages)) (has_last_action (rows s.stages))
    (none_after (rows_fault (has_unknown s) (has_missing s) (has_bad s)) (stages_fault (rows s.stages)) e)

-- ---- kinds

kind_keeps : (f : Field Kind) → is_parallel_kind f ≡ false → (is_ordered (value_or Atomic f) || is_atomic (value_or Atomic f)) ≡ true
kind_keeps Absent e = refl
kind_keeps Bad e = refl
kind_keeps (Good Ordered) e = refl
kind_keeps (Good Atomic) e = refl
kind_keeps (Good Parallel) e = absurd cc

inside_at : (stages : List StageRow) (k : ℕ) (d : StageRow) → has_parallel_inside stages ≡ false → k + 1 < length stages → is_parallel (slice_index_or stages k d) ≡ false
unfolding has_parallel_inside
inside_at stages k d none lt =
    let inside : k < length stages - 1 = omega arith in
    let there : k < length (take (length stages - 1) stages) = rw length-take (omega arith) in
    false_from_ne_true (is_parallel (slice_index_or stages k d)) (λ yes. false≢true (sym none
    ∙ list_any_at is_parallel (take (length stages - 1) stages) k d there (ap is_parallel (get_or-take (length stages - 1) stages k d inside) ∙ yes)))

first_of_some : (stages : List StageRow) → 0 < length stages → StageRow
first_of_some [] lt = absurd (omega arith)
first_of_some (r ∷ more) lt = r

pub staged : (workers : ℕ) (s : SurveySeen) → first_fault s ≡ None → IsStaged (plan_asked workers s) (actions_asked s)
unfolding plan_asked
staged workers s none =
    let stages = rows s.stages in
    record {
      queues = length-map stages stage_asked ∙ sym (length-map stages action_asked);
      kinds = λ k lt. let short : k + 1 < length stages = rw (← length-map stages action_asked) lt in
          let d = first_of_some stages (omega arith) in
          let at : queue_of (plan_asked workers s) k ≡ stage_asked (slice_index_or stages k d) = get_or-map stage_asked stages k d _ (omega arith) in
          rw at (kind_keeps (slice_index_or stages k d).queue.kind (inside_at stages k d (good_rows s none) short));
    }

-- ---- actions

proper_drop_by : (b : Bool) (n : ℕ) → eqb n 0 ≡ b → IfSome (cond b None (Some (DropMultiples n))) IsProper
proper_drop_by true n e = tt
proper_drop_by false n e = let some = eqb-false n 0 e in omega arith

proper_drops : (o : Option ℕ) → IfSome (option_and_then drop_by o) IsProper
proper_drops None = tt
proper_drops (Some n) = proper_drop_by (eqb n 0) n refl

proper_adds : (o : Option ℕ) → IfSome (option_map (λ n. Add n) o) IsProper
proper_adds None = tt
proper_adds (Some n) = tt

proper_pass : (b : Bool) → IfSome (cond b (Some Pass) None) IsProper
proper_pass true = tt
proper_pass false = tt

proper_two : (a b : Bool) (o p : Option Action) → IfSome o IsProper → IfSome p IsProper → IfSome (cond a o (cond b p None)) IsProper
proper_two true b o p first second = first
proper_two false true o p first second = second
proper_two false false o p first second = tt

proper_words : (ws : List (List ℕ)) → IfSome (action_of ws) IsProper
proper_words [] = tt
proper_words (a ∷ []) = proper_pass (is_text a (codes "pass"))
proper_words (a ∷ b ∷ []) =
    proper_two (is_text a (codes "add")) (is_text a (codes "drop")) (adds b) (drops b) (proper_adds (number (2 ^ 64 - 1) b)) (proper_drops (number (2 ^ 64 - 1) b))
proper_words (a ∷ b ∷ c ∷ more) = tt

proper_text : (text : List ℕ) → IfSome (action_in text) IsProper
unfolding action_in
proper_text text = proper_words (slice_split (λ b. eqb b 32) text)

proper_good : (o : Option Action) → IfSome o IsProper → IsProper (value_or Pass (good_or_bad o))
proper_good None h = tt
proper_good (Some a) h = h

proper_field : (f : Field (List ℕ)) → IsProper (value_or Pass (by_name action_named f))
proper_field Absent = tt
proper_field Bad = tt
proper_field (Good text) = proper_good (action_in text) (proper_text text)

proper_stages : (tables : List Members) → AllByRecursion IsProper (map action_asked (map stage_row tables))
proper_stages [] = tt
proper_stages (t ∷ ts) = (proper_field (text_at (codes "action") t), proper_stages ts)

proper_rows : (f : Field (List Members)) → AllByRecursion IsProper (map action_asked (rows (field_map (map stage_row) f)))
proper_rows Absent = tt
proper_rows Bad = tt
proper_rows (Good tables) = proper_stages tables

pub proper : (t : Members) → All IsProper (actions_asked (survey_of t))
unfolding survey_of
proper t = All-from_recursion IsProper (actions_asked (survey_of t)) (proper_rows (tables_at (codes "stage") t))
