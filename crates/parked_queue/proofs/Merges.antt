-- The lists merge into the list of which they are the parts.
use Rattle.std.proofs.Common.{◌≡◌, ◌≢◌, ℕ, zero, suc, ◌+◌, ◌<◌, ◌≤◌, Bool, true, false, cond, not, nat_lt, ◌&&◌, ◌||◌, ◌==◌, List, [], ◌∷◌, ◌++◌, length, set, get_or, filter, All, sum_by, ◌⊎◌, inl, inr, ⊎_elim, refl, sym, ap, ◌∙◌, subst, arith}
use Rattle.std.proofs.lemmas.Bool.{cases_eq, cond-true, cond-false, false_from_ne_true, ltb-true, lt-ltb, and_right}
use Rattle.std.proofs.lemmas.List.Elements.{All-head, All-weaker, All-tail, All-filter}
use Rattle.std.proofs.lemmas.List.Sums.{sum_by-cons}
use Rattle.lists.proofs.Lists.{eqb_same, eqb_other, eqb_is, filter-all, filter-none, filter_agree_all, filter_twice, filter-push_true, filter-push_false}
use Rattle.lists.proofs.Ranges.{mapped_changed}
use Rattle.evt_types.specs.declared.event.Numbered.{Numbered}
use Rattle.parked_queue.specs.Merge.{inserted, merged, by_number, is_in, in_list, lists_of}
use Rattle.parked_queue.specs.Waits.{IsRising, is_other}

-- ---- rising lists

pub rest_higher : (w : Numbered) (ws : List Numbered) → IsRising (w ∷ ws) → All (λ (v : Numbered). w.number < v.number) ws
rest_higher w ws rises k d h = rises 0 (suc k) d (omega arith) (omega arith)

pub rest_rises : (w : Numbered) (ws : List Numbered) → IsRising (w ∷ ws) → IsRising ws
rest_rises w ws rises i j d lt within = rises (suc i) (suc j) d (omega arith) (omega arith)

not_less : (m n : ℕ) → m < n → nat_lt n m ≡ false
not_less m n h = false_from_ne_true (nat_lt n m) (λ t. let lt = ltb-true n m t in omega arith)

-- an event below all others comes first
inserted_first : (u : Numbered) (ws : List Numbered) → All (λ (w : Numbered). u.number < w.number) ws → inserted u ws ≡ u ∷ ws
inserted_first u [] all = refl
inserted_first u (w ∷ ws) all = cond-true (nat_lt u.number w.number) (u ∷ w ∷ ws) (w ∷ inserted u ws) (lt-ltb u.number w.number (All-head (λ (x : Numbered). u.number < x.number) w ws all))

-- what is below all of the one list stays first
merged_first : (us : List Numbered) (w : Numbered) (ws : List Numbered) → All (λ (u : Numbered). w.number < u.number) us → merged us (w ∷ ws) ≡ w ∷ merged us ws
merged_first [] w ws all = refl
merged_first (u ∷ us) w ws all =
    ap (inserted u) (merged_first us w ws (All-tail (λ (x : Numbered). w.number < x.number) u us all))
    ∙ cond-false (nat_lt u.number w.number) (u ∷ w ∷ merged us ws) (w ∷ inserted u (merged us ws)) (not_less w.number u.number (All-head (λ (x : Numbered). w.number < x.number) u us all))

-- what one test, another, or neither says of an event, where no event passes both
abbrev IsOneOf : (p q r : Numbered → Bool) → Numbered → Type 0
IsOneOf p q r w = ((p w ≡ true) × (q w ≡ false) × (r w ≡ true)) ⊎ ((p w ≡ false) × (q w ≡ r w))

second_or_none : (p q r : Numbered → Bool) (w : Numbered) (ws : List Numbered) (b : Bool) → All (λ (v : Numbered). w.number < v.number) ws → merged (filter p ws) (filter q ws) ≡ filter r ws → merged (filter p ws) (cond b (w ∷ filter q ws) (filter q ws)) ≡ cond b (w ∷ filter r ws) (filter r ws)
second_or_none p q r w ws true later rest = merged_first (filter p ws) w (filter q ws) (All-filter p (λ (v : Numbered). w.number < v.number) ws later) ∙ ap (λ xs. w ∷ xs) rest
second_or_none p q r w ws false later rest = rest

merged_step : (p q r : Numbered → Bool) (w : Numbered) (ws : List Numbered) → IsOneOf p q r w → All (λ (v : Numbered). w.number < v.number) ws → merged (filter p ws) (filter q ws) ≡ filter r ws → merged (filter p (w ∷ ws)) (filter q (w ∷ ws)) ≡ filter r (w ∷ ws)
merged_step p q r w ws (inl first) later rest =
    ap (λ b. merged (cond b (w ∷ filter p ws) (filter p ws)) (filter q (w ∷ ws))) first.0
    ∙ (ap (λ b. merged (w ∷ filter p ws) (cond b (w ∷ filter q ws) (filter q ws))) first.1
    ∙ (ap (inserted w) rest
    ∙ (inserted_first w (filter r ws) (All-filter r (λ (v : Numbered). w.number < v.number) ws later)
    ∙ sym (ap (λ b. cond b (w ∷ filter r ws) (filter r ws)) first.2))))
merged_step p q r w ws (inr second) later rest =
    ap (λ b. merged (cond b (w ∷ filter p ws) (filter p ws)) (filter q (w ∷ ws))) second.0
    ∙ (ap (λ b. merged (filter p ws) (cond b (w ∷ filter q ws) (filter q ws))) second.1
    ∙ second_or_none p q r w ws (r w) later rest)

-- of a rising list, the events that pass one test and those that pass another, which no event passes beside it
merged_filters : (p q r : Numbered → Bool) (ws : List Numbered) → ((w : Numbered) → IsOneOf p q r w) → IsRising ws → merged (filter p ws) (filter q ws) ≡ filter r ws
merged_filters p q r [] one rises = refl
merged_filters p q r (w ∷ ws) one rises = merged_step p q r w ws (one w) (rest_higher w ws rises) (merged_filters p q r ws one (rest_rises w ws rises))

-- ---- the lists

-- whether the event is in one of so many lists from c on
abbrev is_among : (Numbered → ℕ) → ℕ → ℕ → Numbered → Bool
is_among g c zero w = false
is_among g c (suc n) w = is_in g c w || is_among g (c + 1) n w

module _ (g : Numbered → ℕ) where
  not_among : (c n k : ℕ) (w : Numbered) → g w ≡ k → k < c → is_among g c n w ≡ false
  not_among c zero k w is lt = refl
  not_among c (suc n) k w is lt = ap (λ b. b || is_among g (c + 1) n w) (eqb_other (g w) c (λ e. omega arith)) ∙ not_among (c + 1) n k w is (omega arith)

  by_first : (c n : ℕ) (w : Numbered) (b : Bool) → is_in g c w ≡ b → ((b ≡ true) × (is_among g (c + 1) n w ≡ false) × ((b || is_among g (c + 1) n w) ≡ true)) ⊎ ((b ≡ false) × (is_among g (c + 1) n w ≡ (b || is_among g (c + 1) n w)))
  by_first c n w true h = let e : g w ≡ c = eqb_is (g w) c h in inl (refl, not_among (c + 1) n c w e (omega arith), refl)
  by_first c n w false h = inr (refl, refl)

  by_number_of_lists : (c n : ℕ) (ws : List Numbered) → IsRising ws → by_number (lists_of g c n ws) ≡ filter (is_among g c n) ws
  by_number_of_lists c zero ws rises = sym (filter-none (is_among g c zero) ws (λ k d h. refl))
  by_number_of_lists c (suc n) ws rises =
      ap (merged (in_list g c ws)) (by_number_of_lists (c + 1) n ws rises)
      ∙ merged_filters (is_in g c) (is_among g (c + 1) n) (is_among g c (suc n)) ws (λ w. by_first c n w (is_in g c w) refl) rises

  -- in one of the lists from c on
  among : (c n : ℕ) (w : Numbered) → c ≤ g w → g w < c + n → is_among g c n w ≡ true
  among c zero w le lt = absurd (omega arith)
  among c (suc n) w le lt =
      ⊎_elim (λ e. ap (λ b. b || is_among g (c + 1) n w) (subst (λ k. (g w == k) ≡ true) e (eqb_same (g w))))
      (λ differs. ap (λ b. b || is_among g (c + 1) n w) (eqb_other (g w) c differs) ∙ among (c + 1) n w (omega arith) (omega arith))
      (cases_eq (g w) c)

  -- what waits is the merged lists
  pub merges_back : (n : ℕ) (ws : List Numbered) → IsRising ws → All (λ (w : Numbered). g w < n) ws → by_number (lists_of g 0 n ws) ≡ ws
  merges_back n ws rises within =
      by_number_of_lists 0 n ws rises
      ∙ filter-all (is_among g 0 n) ws (All-weaker (λ (w : Numbered). g w < n) (λ w. is_among g 0 n w ≡ true) (λ w lt. among 0 n w (omega arith) (omega arith)) ws within)

  -- ---- one event more, and one less

  pub lists_with : (n : ℕ) (ws : List Numbered) (w : Numbered) → g w < n → lists_of g 0 n (ws ++ w ∷ []) ≡ set (lists_of g 0 n ws) (g w) (in_list g (g w) ws ++ w ∷ [])
  lists_with n ws w lt =
      mapped_changed (λ d. in_list g d ws) (λ d. in_list g d (ws ++ w ∷ [])) n (g w) (in_list g (g w) ws ++ w ∷ []) lt
      (filter-push_true (is_in g (g w)) ws w (eqb_same (g w)))
      (λ k differs. filter-push_false (is_in g k) ws w (eqb_other (g w) k (λ e. differs (sym e))))

  pub lists_without : (n : ℕ) (ws : List Numbered) (m c : ℕ) → c < n → All (λ (w : Numbered). w.number ≡ m → g w ≡ c) ws → lists_of g 0 n (filter (is_other m) ws) ≡ set (lists_of g 0 n ws) c (filter (is_other m) (in_list g c ws))
  lists_without n ws m c lt all =
      mapped_changed (λ d. in_list g d ws) (λ d. in_list g d (filter (is_other m) ws)) n c (filter (is_other m) (in_list g c ws)) lt
      (filter_swap (is_in g c) (is_other m) ws)
      (λ k differs. filter_swap (is_in g k) (is_other m) ws ∙ (filter_twice (is_other m) (is_in g k) ws ∙ filter_agree_all (λ w. is_other m w && is_in g k w) (is_in g k) ws (All-weaker (λ (w : Numbered). w.number ≡ m → g w ≡ c) (λ w. (is_other m w && is_in g k w) ≡ is_in g k w) (λ w h. same k differs w h (cases_eq w.number m)) ws all)))
    where
      and-swap : (a b : Bool) → (a && b) ≡ (b && a)
      and-swap true true = refl
      and-swap true false = refl
      and-swap false true = refl
      and-swap false false = refl

      filter_swap : (p q : Numbered → Bool) (us : List Numbered) → filter p (filter q us) ≡ filter q (filter p us)
      filter_swap p q us = filter_twice p q us ∙ (filter_agree_all (λ w. p w && q w) (λ w. q w && p w) us (λ k d h. and-swap (p (get_or us k d)) (q (get_or us k d))) ∙ sym (filter_twice q p us))

      same : (k : ℕ) → k ≢ c → (w : Numbered) → (w.number ≡ m → g w ≡ c) → (w.number ≡ m) ⊎ (w.number ≢ m) → (is_other m w && is_in g k w) ≡ is_in g k w
      same k differs w h (inl e) =
          let apart : is_in g k w ≡ false = eqb_other (g w) k (λ f. differs (sym f ∙ h e)) in
          and_right (is_other m w) (is_in g k w) apart ∙ sym apart
      same k differs w h (inr ne) = ap (λ b. b && is_in g k w) (ap not (eqb_other w.number m ne))

-- ---- sums over what waits

inserted_step : (f : Numbered → ℕ) (u w : Numbered) (ws : List Numbered) (b : Bool) → sum_by f (inserted u ws) ≡ f u + sum_by f ws → sum_by f (cond b (u ∷ w ∷ ws) (w ∷ inserted u ws)) ≡ f u + sum_by f (w ∷ ws)
inserted_step f u w ws true rest = sum_by-cons f u (w ∷ ws)
inserted_step f u w ws false rest =
    let more = sum_by-cons f w ws in
    sum_by-cons f w (inserted u ws) ∙ omega arith

inserted_sum : (f : Numbered → ℕ) (u : Numbered) (ws : List Numbered) → sum_by f (inserted u ws) ≡ f u + sum_by f ws
inserted_sum f u [] = sum_by-cons f u []
inserted_sum f u (w ∷ ws) = inserted_step f u w ws (nat_lt u.number w.number) (inserted_sum f u ws)

merged_sum : (f : Numbered → ℕ) (us ws : List Numbered) → sum_by f (merged us ws) ≡ sum_by f us + sum_by f ws
merged_sum f [] ws = let none : sum_by f [] ≡ 0 = refl in omega arith
merged_sum f (u ∷ us) ws =
    let rest = merged_sum f us ws in
    let more = sum_by-cons f u us in
    inserted_sum f u (merged us ws) ∙ omega arith

pub by_number_sum : (f : Numbered → ℕ) (lists : List (List Numbered)) → sum_by f (by_number lists) ≡ sum_by (λ us. sum_by f us) lists
by_number_sum f [] = refl
by_number_sum f (us ∷ lists) = merged_sum f us (by_number lists) ∙ (ap (λ n. sum_by f us + n) (by_number_sum f lists) ∙ sym (sum_by-cons (λ xs. sum_by f xs) us lists))

inserted_one : (u w : Numbered) (ws : List Numbered) (b : Bool) → length (inserted u ws) ≡ length ws + 1 → length (cond b (u ∷ w ∷ ws) (w ∷ inserted u ws)) ≡ length ws + 2
inserted_one u w ws true rest = omega arith
inserted_one u w ws false rest = omega arith

inserted_length : (u : Numbered) (ws : List Numbered) → length (inserted u ws) ≡ length ws + 1
inserted_length u [] = omega arith
inserted_length u (w ∷ ws) = inserted_one u w ws (nat_lt u.number w.number) (inserted_length u ws) ∙ omega arith

merged_length : (us ws : List Numbered) → length (merged us ws) ≡ length us + length ws
merged_length [] ws = omega arith
merged_length (u ∷ us) ws = let rest = merged_length us ws in inserted_length u (merged us ws) ∙ omega arith

-- as many wait as are in the lists
pub by_number_length : (lists : List (List Numbered)) → length (by_number lists) ≡ sum_by length lists
by_number_length [] = refl
by_number_length (us ∷ lists) =
    let rest = by_number_length lists in
    let here = sum_by-cons (λ (xs : List Numbered). length xs) us lists in
    merged_length us (by_number lists) ∙ omega arith

-- ---- where nothing waits
