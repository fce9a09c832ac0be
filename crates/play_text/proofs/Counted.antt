-- The counts by which the accepted events of a log are numbered.
use Rattle.std.proofs.Common.{◌≡◌, ℕ, suc, ◌+◌, ◌<◌, ◌≤◌, ◌^◌, ⊎_elim, true, false, subst, add-zero, drop-cons, length-set, List, [], ◌∷◌, ◌++◌, Option, Some, None, length, take, drop, get_or, set, cond, eqb, refl, sym, ap, ◌∙◌, arith, add-one, append_assoc, length-append}
use Rattle.std.specs.Prelude.{slice_index, filter_map, replicate}
use Rattle.std.specs.List.{cons_option}
use Rattle.std.proofs.lemmas.Bool.{cases_eq, cases_lt, eq-eqb, ne_eqb}
use Rattle.std.proofs.lemmas.List.{append-nil, get_or-replicate, get_or-set_same, get_or-set_other, get_or_past, length-replicate, take_more}
use Rattle.std.proofs.lemmas.List.Elements.{filter_map-append}
use Rattle.transcripts.specs.Transcript.{accepted, accepted_in}
use Rattle.evt_types.specs.declared.draft.QueueDraft.{QueueDraft}
use Rattle.evt_types.specs.declared.event.Event.{Event}
use Rattle.evt_types.specs.declared.step.Source.{Source}
use Rattle.evt_types.specs.declared.step.Step.{Step}
use Rattle.evt_types.specs.declared.step.Step.TheVariants.{Accept, Give, Done, More, Turned, Bounced, Shut}
use Rattle.play_text.specs.Text.{IsInRange, count_of, counts_after, number_after, lines_after, step_line}

-- there is a count for each of n queues, of what it accepted in the past
pub record Counts (n : ℕ) (counts : List ℕ) (past : List Step) : Type 0 where
  pub there : length counts ≡ n
  pub each : (q : ℕ) → q < n → slice_index counts q ≡ length (accepted past q)

-- one step more, by what it accepts in the queue
accepted-push : (T : List Step) (s : Step) (q : ℕ) → accepted (T ++ s ∷ []) q ≡ accepted T q ++ filter_map (accepted_in q) (s ∷ [])
unfolding accepted
accepted-push T s q = filter_map-append (accepted_in q) T (s ∷ [])

-- no queue accepts more events than there are steps
filter_map-short : {X Y : Type 0} (f : X → Option Y) (xs : List X) → length (filter_map f xs) ≤ length xs
filter_map-short f [] = omega arith
filter_map-short f (x ∷ xs) =
    let ih : length (filter_map f xs) ≤ length xs = filter_map-short f xs in
    elim (f x) as (λ o. length (cons_option o (filter_map f xs)) ≤ length (x ∷ xs)) [ None ↦ omega arith | Some y ↦ omega arith ]

pub accepted-short : (T : List Step) (q : ℕ) → length (accepted T q) ≤ length T
unfolding accepted
accepted-short T q = filter_map-short (accepted_in q) T

pub Counts-none : (n : ℕ) (counts : List ℕ) → counts ≡ replicate n 0 → Counts n counts []
unfolding accepted
Counts-none n counts e = record { there = rw e (length-replicate n 0); each = λ q h. rw e (get_or-replicate n q 0 0 h) }

-- a step that the queue accepts nothing by
Counts-same : (n : ℕ) (counts : List ℕ) (past : List Step) (s : Step) → Counts n counts past → ((q : ℕ) → filter_map (accepted_in q) (s ∷ []) ≡ []) → Counts n counts (past ++ s ∷ [])
Counts-same n counts past s h none = record {
  there = h.there;
  each = λ q lt. h.each q lt ∙ sym (ap length (accepted-push past s q ∙ ap (λ xs. accepted past q ++ xs) (none q) ∙ append-nil (accepted past q)));
}

-- what an accept adds to each queue's count
accepted-one : (q r : ℕ) (e : Event) (src : Source) → length (filter_map (accepted_in q) (Accept r e src ∷ [])) ≡ cond (eqb r q) 1 0
accepted-one q r e src = elim (eqb r q) as (λ b. length (cons_option (cond b (Some e) None) []) ≡ cond b 1 0) [ true ↦ refl | false ↦ refl ]

set-counts : (counts : List ℕ) (r q : ℕ) → r < length counts → get_or (set counts r (get_or counts r 0 + 1)) q 0 ≡ get_or counts q 0 + cond (eqb r q) 1 0
set-counts counts r q lt =
    ⊎_elim (λ (e : r ≡ q). rw (eq-eqb r q e) (subst (λ x. get_or (set counts r (get_or counts r 0 + 1)) x 0 ≡ get_or counts x 0 + 1) e (get_or-set_same counts r (get_or counts r 0 + 1) 0 lt)))
    (λ (ne : r ≡ q → ⊥). rw (ne_eqb r q ne) (get_or-set_other counts r q (get_or counts r 0 + 1) 0 (λ e. ne (sym e)) ∙ sym (add-zero (get_or counts q 0))))
    (cases_eq r q)

Counts-accept : (n : ℕ) (counts : List ℕ) (past : List Step) (r : ℕ) (e : Event) (src : Source) → Counts n counts past → r < n → Counts n (set counts r (get_or counts r 0 + 1)) (past ++ Accept r e src ∷ [])
Counts-accept n counts past r e src h i = record {
  there = length-set counts r (get_or counts r 0 + 1) ∙ h.there;
  each = λ q lt.
      let in_range : r < length counts = omega (arith, h.there) in
      set-counts counts r q in_range ∙ ap (λ x. x + cond (eqb r q) 1 0) (h.each q lt)
      ∙ sym (ap length (accepted-push past (Accept r e src) q) ∙ length-append (accepted past q) (filter_map (accepted_in q) (Accept r e src ∷ [])) ∙ ap (λ x. length (accepted past q) + x) (accepted-one q r e src));
}

pub Counts-step : (n : ℕ) (counts : List ℕ) (past : List Step) (s : Step) → Counts n counts past → IsInRange n s → Counts n (counts_after counts s) (past ++ s ∷ [])
Counts-step n counts past (Accept r e src) h i = Counts-accept n counts past r e src h i
Counts-step n counts past (Give l r m) h i = Counts-same n counts past (Give l r m) h (λ q. refl)
Counts-step n counts past (Done l o) h i = Counts-same n counts past (Done l o) h (λ q. refl)
Counts-step n counts past (More l e) h i = Counts-same n counts past (More l e) h (λ q. refl)
Counts-step n counts past (Turned l e) h i = Counts-same n counts past (Turned l e) h (λ q. refl)
Counts-step n counts past (Bounced l) h i = Counts-same n counts past (Bounced l) h (λ q. refl)
Counts-step n counts past Shut h i = Counts-same n counts past Shut h (λ q. refl)

-- the count is the number
pub Counts-number : (n : ℕ) (counts : List ℕ) (past : List Step) (s : Step) → Counts n counts past → IsInRange n s → count_of counts s ≡ number_after past s
Counts-number n counts past (Accept r e src) h i = h.each r i
Counts-number n counts past (Give l r m) h i = refl
Counts-number n counts past (Done l o) h i = refl
Counts-number n counts past (More l e) h i = refl
Counts-number n counts past (Turned l e) h i = refl
Counts-number n counts past (Bounced l) h i = refl
Counts-number n counts past Shut h i = refl

-- no count comes near the end of its range
pub Counts-fits : (n : ℕ) (counts : List ℕ) (past : List Step) → Counts n counts past → length past + 1 < 2 ^ 64 → (q : ℕ) → slice_index counts q + 1 < 2 ^ 64
Counts-fits n counts past h small q =
    ⊎_elim (λ (lt : q < n). omega (arith, h.each q lt, accepted-short past q))
    (λ (ge : n ≤ q). let z : get_or counts q 0 ≡ 0 = get_or_past counts q 0 (omega (arith, h.there)) in omega (arith, z))
    (cases_lt q n)

-- ---- the lines

-- the lines of the rest, after one step more
pub lines-step : (qs : List QueueDraft) (T : List Step) (i : ℕ) (s : Step) (out next all : List ℕ) → i < length T → s ≡ get_or T i s → next ≡ out ++ step_line qs (number_after (take i T) s) s → out ++ lines_after qs (take i T) (drop i T) ≡ all → next ++ lines_after qs (take (i + 1) T) (drop (i + 1) T) ≡ all
lines-step qs T i s out next all lt is e h =
    let at : drop i T ≡ s ∷ drop (i + 1) T = rw add-one (drop-cons T i s lt ∙ ap (λ x. x ∷ drop (suc i) T) (sym is)) in
    let front : take (i + 1) T ≡ take i T ++ s ∷ [] = take_more T i s lt ∙ ap (λ x. take i T ++ x ∷ []) (sym is) in
    let h' : out ++ lines_after qs (take i T) (s ∷ drop (i + 1) T) ≡ all = ap (λ xs. out ++ lines_after qs (take i T) xs) (sym at) ∙ h in
    ap (λ xs. xs ++ lines_after qs (take (i + 1) T) (drop (i + 1) T)) e
    ∙ ap (λ xs. (out ++ step_line qs (number_after (take i T) s) s) ++ lines_after qs xs (drop (i + 1) T)) front
    ∙ append_assoc out (step_line qs (number_after (take i T) s) s) (lines_after qs (take i T ++ s ∷ []) (drop (i + 1) T)) ∙ h'
