-- The lines of the log's steps, each accepted event with its number.
use Rattle.std.proofs.Common.{◌≡◌, ℕ, suc, ◌+◌, ◌<◌, drop-cons, List, [], ◌∷◌, ◌++◌, length, take, drop, get_or, sym, ap, ◌∙◌, add-one, append_assoc}
use Rattle.std.proofs.lemmas.List.{take_more}
use Rattle.evt_types.specs.declared.draft.QueueDraft.{QueueDraft}
use Rattle.evt_types.specs.declared.step.Step.{Step}
use Rattle.play_text.specs.Text.{number_after}
use Rattle.json_lines.specs.Lines.{lines_after, step_line}

-- the lines of the rest, after one step more
pub lines-step : (qs : List QueueDraft) (T : List Step) (i : ℕ) (s : Step) (out next all : List ℕ) → i < length T → s ≡ get_or T i s → next ≡ out ++ step_line qs (number_after (take i T) s) s → out ++ lines_after qs (take i T) (drop i T) ≡ all → next ++ lines_after qs (take (i + 1) T) (drop (i + 1) T) ≡ all
lines-step qs T i s out next all lt is e h =
    let line = step_line qs (number_after (take i T) s) s in
    let at : drop i T ≡ s ∷ drop (i + 1) T = rw add-one (drop-cons T i s lt ∙ ap (λ x. x ∷ drop (suc i) T) (sym is)) in
    let front : take (i + 1) T ≡ take i T ++ s ∷ [] = take_more T i s lt ∙ ap (λ x. take i T ++ x ∷ []) (sym is) in
    let before : out ++ lines_after qs (take i T) (s ∷ drop (i + 1) T) ≡ all = ap (λ xs. out ++ lines_after qs (take i T) xs) (sym at) ∙ h in
    ap (λ xs. xs ++ lines_after qs (take (i + 1) T) (drop (i + 1) T)) e
    ∙ ap (λ xs. (out ++ line) ++ lines_after qs xs (drop (i + 1) T)) front
    ∙ append_assoc out line (lines_after qs (take i T ++ s ∷ []) (drop (i + 1) T)) ∙ before
