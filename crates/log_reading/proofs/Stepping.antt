-- How far a log was read.
use Rattle.std.proofs.Common.{◌≡◌, ◌≢◌, ℕ, ◌+◌, ◌<◌, ◌^◌, List, [], ◌∷◌, ◌++◌, length, refl, sym, ap, subst, ◌∙◌, arith, append_assoc, append-nil, inl, inr}
use Rattle.std.specs.Prelude.{codes, All, Option, Some, None, Err}
use Rattle.std.specs.List.{AllByRecursion}
use Rattle.std.proofs.lemmas.List.Elements.{All-append, All-cons, All-nil, recursion_from_All}
use Rattle.evt_types.specs.declared.draft.QueueDraft.{QueueDraft}
use Rattle.evt_types.specs.declared.step.Outcome.TheVariants.{Forwarded, Released}
use Rattle.evt_types.specs.declared.step.Source.TheVariants.{New, Of}
use Rattle.evt_types.specs.declared.step.Step.{Step}
use Rattle.evt_types.specs.declared.step.Step.TheVariants.{Accept, Give, Done, More, Turned, Bounced, Shut}
use Rattle.play_text.specs.Text.{IsInRange, count_of, counts_after, number_after, step_line, lines_after}
use Rattle.play_text.proofs.Counted.{Counts, Counts-step, Counts-number}
use Rattle.log_reading.specs.Logs.{IsLine, IsStep, IsEnd, AreSteps, EndsBadly, ReadsSteps}
use Rattle.log_reading.specs.declared.fault.LogFault.{LogFault}
use Rattle.log_reading.specs.declared.fault.LogFault.TheVariants as faults
use Rattle.log_reading.proofs.Lines.{heads, lines_unique, no_end_inside}
use Rattle.log_reading.proofs.Spelling.{step_line-whole}

-- the lines of some steps, and of those behind them
lines_after-append : (qs : List QueueDraft) (past T U : List Step) → lines_after qs past (T ++ U) ≡ lines_after qs past T ++ lines_after qs (past ++ T) U
lines_after-append qs past [] U = rw (append-nil past) refl
lines_after-append qs past (s ∷ T) U =
    ap (λ r. step_line qs (number_after past s) s ++ r) (lines_after-append qs (past ++ s ∷ []) T U ∙ ap (λ p. lines_after qs (past ++ s ∷ []) T ++ lines_after qs p U) (append_assoc past (s ∷ []) T))
    ∙ sym (append_assoc (step_line qs (number_after past s) s) (lines_after qs (past ++ s ∷ []) T) (lines_after qs (past ++ s ∷ T) U))

-- a log ends before the sign r, or at the text's end
no_end_before : (b : ℕ) (bs : List ℕ) → b ≢ 114 → IsEnd (b ∷ bs) → ⊥
no_end_before b bs other (inl e) = absurd cc
no_end_before b bs other (inr p) = other (heads b 114 bs (codes "eport\n" ++ p.0) p.1)

-- no log ends where a step's line stands
pub no_end_at_step : (qs : List QueueDraft) (n : ℕ) (s : Step) (more : List ℕ) → IsEnd (step_line qs n s ++ more) → ⊥
no_end_at_step qs n (Accept q e src) more end = no_end_before 97 _ (λ h. omega (arith, h)) end
no_end_at_step qs n (Give l q m) more end = no_end_before 103 _ (λ h. omega (arith, h)) end
no_end_at_step qs n (Done l o) more end = no_end_before 100 _ (λ h. omega (arith, h)) end
no_end_at_step qs n (More l e) more end = no_end_before 109 _ (λ h. omega (arith, h)) end
no_end_at_step qs n (Turned l e) more end = no_end_before 116 _ (λ h. omega (arith, h)) end
no_end_at_step qs n (Bounced l) more end = no_end_before 98 _ (λ h. omega (arith, h)) end
no_end_at_step qs n Shut more end = no_end_before 115 _ (λ h. omega (arith, h)) end

-- a step of which there can be a value, and whose queue is one of so many
abbrev pub IsSaid : ℕ → Step → Type 0
IsSaid n s = IsStep s × IsInRange n s

-- what is left of the steps of a log, behind these
pub record Left (qs : List QueueDraft) (steps T : List Step) (rest : List ℕ) : Type 0 where
  pub others : List Step
  pub after : List ℕ
  pub whole : T ≡ steps ++ others
  pub said : AllByRecursion (IsSaid (length qs)) others
  pub lines : rest ≡ lines_after qs steps others ++ after
  pub end : IsEnd after

-- these steps were read, and this is left
pub record IsRead (qs : List QueueDraft) (text : List ℕ) (steps : List Step) (counts : List ℕ) (rest : List ℕ) : Type 0 where
  pub lines : text ≡ lines_after qs [] steps ++ rest
  pub there : All (IsInRange (length qs)) steps
  pub counted : Counts (length qs) counts steps
  pub left : (T : List Step) → All IsStep T → AreSteps qs text T → Left qs steps T rest

both : (n : ℕ) (T : List Step) → AllByRecursion IsStep T → AllByRecursion (IsInRange n) T → AllByRecursion (IsSaid n) T
both n [] a b = tt
both n (s ∷ T) a b = ((a.0, b.0), both n T a.1 b.1)

pub read-none : (qs : List QueueDraft) (text counts : List ℕ) → Counts (length qs) counts [] → IsRead qs text [] counts text
read-none qs text counts h = record {
  lines = refl;
  there = All-nil (IsInRange (length qs));
  counted = h;
  left = λ T is a. record {
    others = T;
    after = a.after;
    whole = refl;
    said = both (length qs) T (recursion_from_All IsStep T is) (recursion_from_All (IsInRange (length qs)) T a.there);
    lines = a.lines;
    end = a.end;
  };
}

-- one step more of what is left
left-of : (qs : List QueueDraft) (steps T others : List Step) (s : Step) (after rest line behind : List ℕ) → T ≡ steps ++ others → AllByRecursion (IsSaid (length qs)) others
    → rest ≡ lines_after qs steps others ++ after → IsEnd after → ¬ IsEnd rest → rest ≡ line ++ (codes "\n" ++ behind) → IsLine line
    → ((r : Step) → IsStep r → IsInRange (length qs) r → line ++ codes "\n" ≡ step_line qs (number_after steps r) r → r ≡ s)
    → Left qs (steps ++ s ∷ []) T behind
left-of qs steps T [] s after rest line behind all said lines end on e is only = absurd (on (subst IsEnd (sym lines) end))
left-of qs steps T (r ∷ rs) s after rest line behind all said lines end on e is only =
    let n = number_after steps r in
    let w = step_line-whole qs n r in
    let tail = lines_after qs (steps ++ r ∷ []) rs ++ after in
    let two = lines_unique line w.0 behind tail is w.1
    (sym e ∙ lines ∙ append_assoc (step_line qs n r) (lines_after qs (steps ++ r ∷ []) rs) after ∙ ap (λ x. x ++ tail) w.2 ∙ append_assoc w.0 (codes "\n") tail) in
    let same : r ≡ s = only r said.0.0 said.0.1 (ap (λ x. x ++ codes "\n") two.0 ∙ sym w.2) in
    subst (λ x. Left qs (steps ++ x ∷ []) T behind) same (record {
      others = rs;
      after = after;
      whole = all ∙ sym (append_assoc steps (r ∷ []) rs);
      said = said.1;
      lines = two.1;
      end = end;
    })

some_same : (s r : Step) → Some s ≡ Some r → s ≡ r
some_same s r e = cc

-- one step more
pub read-step : (qs : List QueueDraft) (text : List ℕ) (steps : List Step) (counts rest line behind : List ℕ) (s : Step) (new : List ℕ)
    → IsRead qs text steps counts rest → ¬ IsEnd rest → rest ≡ line ++ (codes "\n" ++ behind) → IsLine line
    → IsInRange (length qs) s → new ≡ counts_after counts s → line ++ codes "\n" ≡ step_line qs (count_of counts s) s
    → ((r : Step) → IsStep r → IsInRange (length qs) r → line ++ codes "\n" ≡ step_line qs (count_of counts r) r → Some s ≡ Some r)
    → IsRead qs text (steps ++ s ∷ []) new behind
read-step qs text steps counts rest line behind s new h on e is there counted said only =
    let number : count_of counts s ≡ number_after steps s = Counts-number (length qs) counts steps s h.counted there in
    record {
      lines = h.lines ∙ ap (λ r. lines_after qs [] steps ++ r) (e ∙ sym (append_assoc line (codes "\n") behind) ∙ ap (λ r. r ++ behind) (said ∙ ap (λ n. step_line qs n s) number))
          ∙ sym (append_assoc (lines_after qs [] steps) (step_line qs (number_after steps s) s) behind)
          ∙ ap (λ r. r ++ behind) (ap (λ r. lines_after qs [] steps ++ r) (sym (append-nil (step_line qs (number_after steps s) s))) ∙ sym (lines_after-append qs [] steps (s ∷ [])));
      there = All-append (IsInRange (length qs)) steps (s ∷ []) h.there (All-cons (IsInRange (length qs)) s [] there (All-nil (IsInRange (length qs))));
      counted = rw counted (Counts-step (length qs) counts steps s h.counted there);
      left = λ T all a. let l = h.left T all a in
          left-of qs steps T l.others s l.after rest line behind l.whole l.said l.lines l.end on e is
          (λ r fits near same. sym (some_same s r (only r fits near (same ∙ ap (λ n. step_line qs n r) (sym (Counts-number (length qs) counts steps r h.counted near))))));
    }

-- no step's line begins there
abbrev pub NoStep : List QueueDraft → List Step → List ℕ → Type 0
NoStep qs steps rest = (s : Step) (more : List ℕ) → IsStep s → IsInRange (length qs) s → ¬ (rest ≡ step_line qs (number_after steps s) s ++ more)

-- since no line ends
pub open-none : (qs : List QueueDraft) (steps : List Step) (rest : List ℕ) → IsLine rest → NoStep qs steps rest
open-none qs steps rest is = λ s more fits there e.
    let w = step_line-whole qs (number_after steps s) s in
    no_end_inside w.0 more (subst IsLine (e ∙ ap (λ x. x ++ more) w.2 ∙ append_assoc w.0 (codes "\n") more) is)

-- since the line is no step's
pub line-none : (qs : List QueueDraft) (text : List ℕ) (steps : List Step) (counts rest line behind : List ℕ) → IsRead qs text steps counts rest
    → rest ≡ line ++ (codes "\n" ++ behind) → IsLine line
    → ((r : Step) → IsStep r → IsInRange (length qs) r → line ++ codes "\n" ≡ step_line qs (count_of counts r) r → ⊥)
    → NoStep qs steps rest
line-none qs text steps counts rest line behind h e is only = λ s more fits there same.
    let w = step_line-whole qs (number_after steps s) s in
    let two = lines_unique line w.0 behind more is w.1 (sym e ∙ same ∙ ap (λ x. x ++ more) w.2 ∙ append_assoc w.0 (codes "\n") more) in
    only s fits there (ap (λ x. x ++ codes "\n") two.0 ∙ sym w.2 ∙ ap (λ n. step_line qs n s) (sym (Counts-number (length qs) counts steps s h.counted there)))

pub bad-there : (qs : List QueueDraft) (text : List ℕ) (steps : List Step) (counts rest : List ℕ) → IsRead qs text steps counts rest → ¬ IsEnd rest → NoStep qs steps rest → EndsBadly qs text (length steps)
bad-there qs text steps counts rest h on none = record { steps = steps; rest = rest; lines = h.lines; place = refl; unended = on; none = none }

-- and so no log has these lines
left-none : (qs : List QueueDraft) (steps T others : List Step) (after rest : List ℕ) → AllByRecursion (IsSaid (length qs)) others → rest ≡ lines_after qs steps others ++ after → IsEnd after → ¬ IsEnd rest
    → NoStep qs steps rest → ⊥
left-none qs steps T [] after rest said lines end on none = on (subst IsEnd (sym lines) end)
left-none qs steps T (s ∷ others) after rest said lines end on none =
    none s (lines_after qs (steps ++ s ∷ []) others ++ after) said.0.0 said.0.1 (lines ∙ append_assoc (step_line qs (number_after steps s) s) (lines_after qs (steps ++ s ∷ []) others) after)

pub bad-no_log : (qs : List QueueDraft) (text : List ℕ) (steps : List Step) (counts rest : List ℕ) → IsRead qs text steps counts rest → ¬ IsEnd rest → NoStep qs steps rest → (T : List Step) → All IsStep T → AreSteps qs text T → ⊥
bad-no_log qs text steps counts rest h on none T all a = let l = h.left T all a in left-none qs steps T l.others l.after rest l.said l.lines l.end on none

-- where the log ends, its steps are those that were read
left-nothing : (qs : List QueueDraft) (steps T others : List Step) (after rest : List ℕ) → T ≡ steps ++ others → rest ≡ lines_after qs steps others ++ after → IsEnd rest → steps ≡ T
left-nothing qs steps T [] after rest all lines end = sym (all ∙ append-nil steps)
left-nothing qs steps T (s ∷ others) after rest all lines end =
    absurd (no_end_at_step qs (number_after steps s) s (lines_after qs (steps ++ s ∷ []) others ++ after)
    (subst IsEnd (lines ∙ append_assoc (step_line qs (number_after steps s) s) (lines_after qs (steps ++ s ∷ []) others) after) end))

pub read-all : (qs : List QueueDraft) (text : List ℕ) (steps : List Step) (counts rest : List ℕ) → IsRead qs text steps counts rest → IsEnd rest → (T : List Step) → All IsStep T → AreSteps qs text T → steps ≡ T
read-all qs text steps counts rest h end T all a = let l = h.left T all a in left-nothing qs steps T l.others l.after rest l.whole l.lines end

pub read-steps : (qs : List QueueDraft) (text : List ℕ) (steps : List Step) (counts rest : List ℕ) → IsRead qs text steps counts rest → IsEnd rest → AreSteps qs text steps
read-steps qs text steps counts rest h end = record { after = rest; lines = h.lines; end = end; there = h.there }

-- a fault of the steps' reading is one of the log's
pub fails-same : {X Y : Type 0} (f : LogFault) (P : X → Type 0) (Q : Y → Type 0) → ReadsSteps {X = Y} (Err f) Q → ReadsSteps {X = X} (Err f) P
fails-same faults.None P Q h = h
fails-same (faults.Line line) P Q h = h
fails-same faults.Memory P Q h = tt
