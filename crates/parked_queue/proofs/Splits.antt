-- The first event that passes a test, what stands before it, and what stands behind it.
use Rattle.std.proofs.Common.{◌≡◌, ◌≢◌, ℕ, zero, ◌<◌, ◌≤◌, Bool, true, false, cond, ◌==◌, List, [], ◌∷◌, ◌++◌, drop, set, filter, All, Contains, Some, None, slice_get, ⊎_elim, refl, sym, ap, ◌∙◌, subst, arith, append-nil}
use Rattle.std.proofs.lemmas.Bool.{cases_Bool, cases_eq, cond-true, cond-false}
use Rattle.std.proofs.lemmas.List.Elements.{All-cons, All-head, All-nil, All-append, All-weaker, filter-append, Contains-append_right}
use Rattle.std.proofs.lemmas.Option.{none-some, same_Some}
use Rattle.lists.proofs.Lists.{All-back, eqb_same, eqb_other, filter_agree_all, filter-none}
use Rattle.lists.proofs.Ranges.{mapped_changed}
use Rattle.evt_types.specs.declared.event.Numbered.{Numbered}
use Rattle.parked_queue.specs.Merge.{is_in, in_list, lists_of}
use Rattle.parked_queue.specs.Waits.{IsRising}
use Rattle.parked_queue.proofs.Merges.{rest_higher, rest_rises}

-- an event, what stands before it, of which nothing passes, and what stands behind it
pub record IsSplit (p : Numbered → Bool) (ws before : List Numbered) (w : Numbered) (behind : List Numbered) : Type 0 where
  pub whole : ws ≡ before ++ w ∷ behind
  pub none : All (λ (u : Numbered). p u ≡ false) before
  pub here : p w ≡ true
  pub lower : All (λ (u : Numbered). u.number < w.number) before
  pub higher : All (λ (u : Numbered). w.number < u.number) behind

pub record Split (p : Numbered → Bool) (ws : List Numbered) (w : Numbered) : Type 0 where
  pub before : List Numbered
  pub behind : List Numbered
  pub is : IsSplit p ws before w behind

split_here : (p : Numbered → Bool) (v w : Numbered) (ws : List Numbered) → IsRising (v ∷ ws) → p v ≡ true → v ≡ w → Split p (v ∷ ws) w
split_here p v w ws rises passes same =
    record {
      before = [];
      behind = ws;
      is =
          record {
            whole = ap (λ x. x ∷ ws) same;
            none = All-nil (λ (u : Numbered). p u ≡ false);
            here = subst (λ x. p x ≡ true) same passes;
            lower = All-nil (λ (u : Numbered). u.number < w.number);
            higher = subst (λ (x : Numbered). All (λ (u : Numbered). x.number < u.number) ws) same (rest_higher v ws rises);
          };
    }

split_later : (p : Numbered → Bool) (v w : Numbered) (ws : List Numbered) → IsRising (v ∷ ws) → p v ≡ false → Split p ws w → Split p (v ∷ ws) w
split_later p v w ws rises fails s =
    let all : All (λ (u : Numbered). v.number < u.number) (s.before ++ w ∷ s.behind) = subst (All (λ (u : Numbered). v.number < u.number)) s.is.whole (rest_higher v ws rises) in
    record {
      before = v ∷ s.before;
      behind = s.behind;
      is =
          record {
            whole = ap (λ xs. v ∷ xs) s.is.whole;
            none = All-cons (λ (u : Numbered). p u ≡ false) v s.before fails s.is.none;
            here = s.is.here;
            lower = All-cons (λ (u : Numbered). u.number < w.number) v s.before (All-head (λ (u : Numbered). v.number < u.number) w s.behind (All-back (λ (u : Numbered). v.number < u.number) s.before (w ∷ s.behind) all)) s.is.lower;
            higher = s.is.higher;
          };
    }

pub first_split : (p : Numbered → Bool) (ws : List Numbered) (w : Numbered) → IsRising ws → slice_get (filter p ws) 0 ≡ Some w → Split p ws w
first_split p [] w rises e = absurd (none-some w e)
first_split p (v ∷ ws) w rises e =
    ⊎_elim
    (λ passes. split_here p v w ws rises passes (same_Some v w (subst (λ xs. slice_get xs 0 ≡ Some w) (cond-true (p v) (v ∷ filter p ws) (filter p ws) passes) e)))
    (λ fails. split_later p v w ws rises fails (first_split p ws w (rest_rises v ws rises) (subst (λ xs. slice_get xs 0 ≡ Some w) (cond-false (p v) (v ∷ filter p ws) (filter p ws) fails) e)))
    (cases_Bool (p v))

-- where none is first, none passes
pub none_first : (p : Numbered → Bool) (ws : List Numbered) → slice_get (filter p ws) 0 ≡ None → All (λ (u : Numbered). p u ≡ false) ws
none_first p [] e = All-nil (λ (u : Numbered). p u ≡ false)
none_first p (v ∷ ws) e =
    ⊎_elim
    (λ passes. absurd (none-some v (sym (subst (λ xs. slice_get xs 0 ≡ None) (cond-true (p v) (v ∷ filter p ws) (filter p ws) passes) e))))
    (λ fails. All-cons (λ (u : Numbered). p u ≡ false) v ws fails (none_first p ws (subst (λ xs. slice_get xs 0 ≡ None) (cond-false (p v) (v ∷ filter p ws) (filter p ws) fails) e)))
    (cases_Bool (p v))

-- it is the oldest one that passes
pub first_least : (p : Numbered → Bool) (ws : List Numbered) (w : Numbered) → Split p ws w → All (λ (u : Numbered). p u ≡ true → w.number ≤ u.number) ws
first_least p ws w s =
    subst (All (λ (u : Numbered). p u ≡ true → w.number ≤ u.number)) (sym s.is.whole)
    (All-append (λ (u : Numbered). p u ≡ true → w.number ≤ u.number) s.before (w ∷ s.behind)
    (All-weaker (λ (u : Numbered). p u ≡ false) (λ (u : Numbered). p u ≡ true → w.number ≤ u.number) (λ u fails passes. absurd (differ (p u) fails passes)) s.before s.is.none)
    (All-cons (λ (u : Numbered). p u ≡ true → w.number ≤ u.number) w s.behind (λ passes. omega arith) (All-weaker (λ (u : Numbered). w.number < u.number) (λ (u : Numbered). p u ≡ true → w.number ≤ u.number) (λ u lt passes. omega arith) s.behind s.is.higher)))
  where
    differ : (b : Bool) → b ≡ false → b ≡ true → ⊥
    differ b e f = cc

-- it is the only one of its number
pub first_alone : (p : Numbered → Bool) (ws : List Numbered) (w : Numbered) → Split p ws w → All (λ (u : Numbered). u.number ≡ w.number → u ≡ w) ws
first_alone p ws w s =
    subst (All (λ (u : Numbered). u.number ≡ w.number → u ≡ w)) (sym s.is.whole)
    (All-append (λ (u : Numbered). u.number ≡ w.number → u ≡ w) s.before (w ∷ s.behind)
    (All-weaker (λ (u : Numbered). u.number < w.number) (λ (u : Numbered). u.number ≡ w.number → u ≡ w) (λ u lt e. absurd (omega arith)) s.before s.is.lower)
    (All-cons (λ (u : Numbered). u.number ≡ w.number → u ≡ w) w s.behind (λ e. refl) (All-weaker (λ (u : Numbered). w.number < u.number) (λ (u : Numbered). u.number ≡ w.number → u ≡ w) (λ u lt e. absurd (omega arith)) s.behind s.is.higher)))

pub first_there : (p : Numbered → Bool) (ws : List Numbered) (w : Numbered) → Split p ws w → Contains ws w
first_there p ws w s = subst (λ xs. Contains xs w) (sym s.is.whole) (Contains-append_right s.before (w ∷ s.behind) w (zero, omega arith, refl))

-- ---- the event goes from one list to the end of another

module _ (g h : Numbered → ℕ) (before : List Numbered) (w : Numbered) (behind : List Numbered) (here there : ℕ) (was : g w ≡ here) (is : h w ≡ there) (apart : there ≢ here)
    (as_before : All (λ (u : Numbered). h u ≡ g u) before) (as_behind : All (λ (u : Numbered). h u ≡ g u) behind)
    (none_before : All (λ (u : Numbered). is_in g here u ≡ false) before) (none_behind : All (λ (u : Numbered). is_in g there u ≡ false) behind) where
  same_lists : (k : ℕ) (us : List Numbered) → All (λ (u : Numbered). h u ≡ g u) us → in_list h k us ≡ in_list g k us
  same_lists k us all = filter_agree_all (is_in h k) (is_in g k) us (All-weaker (λ (u : Numbered). h u ≡ g u) (λ (u : Numbered). is_in h k u ≡ is_in g k u) (λ u e. ap (λ n. n == k) e) us all)

  parts : (f : Numbered → ℕ) (k : ℕ) → in_list f k (before ++ w ∷ behind) ≡ in_list f k before ++ in_list f k (w ∷ behind)
  parts f k = filter-append (is_in f k) before (w ∷ behind)

  with_first : (f : Numbered → ℕ) (k : ℕ) → f w ≡ k → in_list f k (w ∷ behind) ≡ w ∷ in_list f k behind
  with_first f k e = cond-true (is_in f k w) (w ∷ in_list f k behind) (in_list f k behind) (subst (λ n. (f w == n) ≡ true) e (eqb_same (f w)))

  without_first : (f : Numbered → ℕ) (k : ℕ) → f w ≢ k → in_list f k (w ∷ behind) ≡ in_list f k behind
  without_first f k differs = cond-false (is_in f k w) (w ∷ in_list f k behind) (in_list f k behind) (eqb_other (f w) k differs)

  -- the list that it leaves
  pub left : in_list h here (before ++ w ∷ behind) ≡ drop 1 (in_list g here (before ++ w ∷ behind))
  left =
      parts h here
      ∙ (ap (λ us. us ++ in_list h here (w ∷ behind)) (same_lists here before as_before ∙ filter-none (is_in g here) before none_before)
      ∙ (without_first h here (λ e. apart (sym is ∙ e))
      ∙ (same_lists here behind as_behind
      ∙ sym (ap (drop 1) (parts g here ∙ (ap (λ us. us ++ in_list g here (w ∷ behind)) (filter-none (is_in g here) before none_before) ∙ with_first g here was))))))

  -- the list that it comes to
  come : in_list h there (before ++ w ∷ behind) ≡ in_list g there (before ++ w ∷ behind) ++ w ∷ []
  come =
      parts h there
      ∙ (ap (λ us. us ++ in_list h there (w ∷ behind)) (same_lists there before as_before)
      ∙ (ap (λ us. in_list g there before ++ us) (with_first h there is ∙ ap (λ us. w ∷ us) (same_lists there behind as_behind ∙ filter-none (is_in g there) behind none_behind))
      ∙ sym (ap (λ us. us ++ w ∷ []) (parts g there ∙ (ap (λ us. in_list g there before ++ us) (without_first g there (λ e. apart (sym e ∙ was)) ∙ filter-none (is_in g there) behind none_behind) ∙ append-nil (in_list g there before))))))

  -- any other list
  kept : (k : ℕ) → k ≢ here → k ≢ there → in_list h k (before ++ w ∷ behind) ≡ in_list g k (before ++ w ∷ behind)
  kept k out off =
      parts h k
      ∙ (ap (λ us. us ++ in_list h k (w ∷ behind)) (same_lists k before as_before)
      ∙ (ap (λ us. in_list g k before ++ us) (without_first h k (λ e. off (sym e ∙ is)) ∙ (same_lists k behind as_behind ∙ sym (without_first g k (λ e. out (sym e ∙ was)))))
      ∙ sym (parts g k)))

  abbrev halfway : ℕ → List Numbered
  halfway k = cond (k == here) (drop 1 (in_list g here (before ++ w ∷ behind))) (in_list g k (before ++ w ∷ behind))

  pub lists_moved : (n : ℕ) → here < n → there < n
      → lists_of h 0 n (before ++ w ∷ behind) ≡ set (set (lists_of g 0 n (before ++ w ∷ behind)) here (drop 1 (in_list g here (before ++ w ∷ behind)))) there (in_list g there (before ++ w ∷ behind) ++ w ∷ [])
  lists_moved n lt less =
      mapped_changed halfway (λ k. in_list h k (before ++ w ∷ behind)) n there (in_list g there (before ++ w ∷ behind) ++ w ∷ []) less come
      (λ k off. ⊎_elim (λ same. ap (λ m. in_list h m (before ++ w ∷ behind)) same ∙ (left ∙ sym (ap halfway same ∙ at_here))) (λ out. kept k out off ∙ sym (elsewhere k out)) (cases_eq k here))
      ∙ ap (λ ls. set ls there (in_list g there (before ++ w ∷ behind) ++ w ∷ []))
      (mapped_changed (λ k. in_list g k (before ++ w ∷ behind)) halfway n here (drop 1 (in_list g here (before ++ w ∷ behind))) lt at_here elsewhere)
    where
      at_here : halfway here ≡ drop 1 (in_list g here (before ++ w ∷ behind))
      at_here = cond-true (here == here) (drop 1 (in_list g here (before ++ w ∷ behind))) (in_list g here (before ++ w ∷ behind)) (eqb_same here)

      elsewhere : (k : ℕ) → k ≢ here → halfway k ≡ in_list g k (before ++ w ∷ behind)
      elsewhere k out = cond-false (k == here) (drop 1 (in_list g here (before ++ w ∷ behind))) (in_list g k (before ++ w ∷ behind)) (eqb_other k here out)
