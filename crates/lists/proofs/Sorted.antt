-- A list in order is told by its sums.
use Rattle.std.proofs.Common.{◌≡◌, ℕ, suc, ◌+◌, ◌-◌, ◌<◌, ◌≤◌, ◌≢◌, ◌⊎◌, inl, inr, ◌||◌, Bool, true, false, nat_lt, nat_le, List, [], ◌∷◌, ◌++◌, length, take, drop, get_or, All, AllPairs, sum_by, ⊎_elim, refl, sym, ap, ◌∙◌, subst, arith}
use Rattle.std.proofs.lemmas.Bool.{cases_eq, cases_lt, lt-ltb, le-leb, false_from_ne_true, false≢true, ltb-true, leb-true, ne_eqb}
use Rattle.lists.specs.Lists.{has}
use Rattle.std.proofs.lemmas.List.{drop_all, take_all, append-nil, length-append}
use Rattle.std.proofs.Common.{take_at, drop_at}
use Rattle.std.proofs.lemmas.List.Sums.{sum_by-cons}
use borrow.Rule.Slice.PartMut.{mid_of, put_mid, post_of}
use Rattle.std.specs.List.Sorted.{IsNonDecreasing}
use Rattle.lists.proofs.Lists.{All-has, eqb_same, has_none}
use Rattle.lists.proofs.Sums.{sum_of_none}

abbrev one_if : Bool → ℕ
one_if true = 1
one_if false = 0

abbrev below : ℕ → ℕ → ℕ
below x z = one_if (nat_lt z x)

abbrev upto : ℕ → ℕ → ℕ
upto x z = one_if (nat_le z x)

first_is_least : (x y : ℕ) (xs ys : List ℕ) → All (λ z. x < z) xs → ((f : ℕ → ℕ) → sum_by f (x ∷ xs) ≡ sum_by f (y ∷ ys)) → x ≤ y
first_is_least x y xs ys later same = ⊎_elim (λ lt. absurd (none lt)) (λ le. le) (cases_lt y x)
  where
    zero_at : (z : ℕ) → x ≤ z → below x z ≡ 0
    zero_at z le = ap one_if (false_from_ne_true (nat_lt z x) (λ t. let lt = ltb-true z x t in omega arith))

    none : y < x → ⊥
    none lt =
        let c = sum_by-cons (below x) x xs in
        let first : below x x ≡ 0 = zero_at x (omega arith) in
        let rest : sum_by (below x) xs ≡ 0 = sum_of_none (below x) xs (λ k d h. let l = later k d h in zero_at (get_or xs k d) (omega arith)) in
        let b : sum_by (below x) (y ∷ ys) ≡ 1 + sum_by (below x) ys = sum_by-cons (below x) y ys ∙ ap (λ t. one_if t + sum_by (below x) ys) (lt-ltb y x lt) in
        let e = same (below x) in
        omega arith

least_is_first : (x y : ℕ) (xs ys : List ℕ) → All (λ z. y ≤ z) ys → ((f : ℕ → ℕ) → sum_by f (x ∷ xs) ≡ sum_by f (y ∷ ys)) → y ≤ x
least_is_first x y xs ys later same = ⊎_elim (λ lt. absurd (none lt)) (λ le. le) (cases_lt x y)
  where
    zero_at : (z : ℕ) → x < z → upto x z ≡ 0
    zero_at z lt = ap one_if (false_from_ne_true (nat_le z x) (λ t. let le = leb-true z x t in omega arith))

    none : x < y → ⊥
    none lt =
        let c = sum_by-cons (upto x) y ys in
        let first : upto x y ≡ 0 = zero_at y lt in
        let rest : sum_by (upto x) ys ≡ 0 = sum_of_none (upto x) ys (λ k d h. let l = later k d h in zero_at (get_or ys k d) (omega arith)) in
        let b : sum_by (upto x) (x ∷ xs) ≡ 1 + sum_by (upto x) xs = sum_by-cons (upto x) x xs ∙ ap (λ t. one_if t + sum_by (upto x) xs) (le-leb x x (omega arith)) in
        let e = same (upto x) in
        omega arith

-- rising numbers are the one order of theirs
pub sorted_same : (xs ys : List ℕ) → AllPairs (λ m n. m < n) xs → IsNonDecreasing ys → ((f : ℕ → ℕ) → sum_by f xs ≡ sum_by f ys) → ys ≡ xs
sorted_same [] [] rises sorted same = refl
sorted_same [] (y ∷ ys) rises sorted same = let e = same (λ z. 1) in let b = sum_by-cons (λ z. 1) y ys in absurd (omega arith)
sorted_same (x ∷ xs) [] rises sorted same = let e = same (λ z. 1) in let b = sum_by-cons (λ z. 1) x xs in absurd (omega arith)
sorted_same (x ∷ xs) (y ∷ ys) rises sorted same =
    let a : x ≤ y = first_is_least x y xs ys (λ k d h. rises 0 (suc k) d (omega arith) (omega arith)) same in
    let b : y ≤ x = least_is_first x y xs ys (λ k d h. sorted 0 (suc k) d (omega arith) (omega arith)) same in
    let e : y ≡ x = omega arith in
    ap (λ n. n ∷ ys) e
    ∙ ap (λ zs. x ∷ zs) (sorted_same xs ys (λ i j d lt within. rises (suc i) (suc j) d (omega arith) (omega arith)) (λ i j d le within. sorted (suc i) (suc j) d (omega arith) (omega arith)) (λ f.
    let s = same f in
    let p = sum_by-cons f x xs in
    let q = sum_by-cons f y ys in
    let g = ap f e in
    omega arith))

-- the last part of a list, put in order in its place
pub tail_sorted : {X : Type 0} (items before xs sorted : List X) (n s : ℕ) → items ≡ before ++ xs → s ≡ length before → n ≡ length items → length sorted ≡ length xs
    → take n (put_mid s (length items - s) items sorted ++ drop (length (put_mid s (length items - s) items sorted)) items) ≡ before ++ sorted
tail_sorted items before xs sorted n s is start end same =
    ap (λ zs. take n (zs ++ drop (length zs) items)) whole
    ∙ (ap (λ zs. take n ((before ++ sorted) ++ zs)) (drop_all (length (before ++ sorted)) items (omega (arith, lengths)))
    ∙ (ap (take n) (append-nil (before ++ sorted))
    ∙ take_all n (before ++ sorted) (omega (arith, lengths))))
  where
    lengths : (length items ≡ length before + length xs) × (length (before ++ sorted) ≡ length before + length xs)
    lengths = (ap length is ∙ length-append before xs, length-append before sorted ∙ ap (λ k. length before + k) same)

    none_after : post_of s (length items - s) items ≡ []
    none_after =
        let e = lengths.0 in
        ap (λ zs. drop (length items - s) (drop s zs)) is
        ∙ (ap (drop (length items - s)) (drop_at before xs s (sym start))
        ∙ drop_all (length items - s) xs (omega arith))

    whole : put_mid s (length items - s) items sorted ≡ before ++ sorted
    whole =
        ap (λ zs. zs ++ (sorted ++ post_of s (length items - s) items)) (ap (take s) is ∙ take_at before xs s (sym start))
        ∙ (ap (λ zs. before ++ (sorted ++ zs)) none_after ∙ ap (λ zs. before ++ zs) (append-nil sorted))

-- what is put in order is that last part
pub tail_is : {X : Type 0} (items before xs : List X) (s : ℕ) → items ≡ before ++ xs → s ≡ length before → mid_of s (length items - s) items ≡ xs
tail_is items before xs s is start =
    let e : length items ≡ length before + length xs = ap length is ∙ length-append before xs in
    ap (take (length items - s)) (ap (drop s) is ∙ drop_at before xs s (sym start)) ∙ take_all (length items - s) xs (omega arith)

-- ---- lists that rise, with the same members

-- the first is the least, so the first of one is the first of the other
first_is_first : (x y : ℕ) (xs ys : List ℕ) → All (λ z. x < z) xs → All (λ z. y < z) ys → has y (x ∷ xs) ≡ true → has x (y ∷ ys) ≡ true → x ≡ y
first_is_first x y xs ys later next in_first in_second = by_case (cases_eq x y)
  where
    by_case : (x ≡ y) ⊎ (x ≢ y) → x ≡ y
    by_case (inl same) = same
    by_case (inr differ) =
        let below : x < y = All-has (λ z. x < z) y xs later (subst (λ b. (b || has y xs) ≡ true) (ne_eqb x y differ) in_first) in
        let above : y < x = All-has (λ z. y < z) x ys next (subst (λ b. (b || has x ys) ≡ true) (ne_eqb y x (λ e. differ (sym e))) in_second) in
        absurd (omega arith)

pub same_rising : (xs ys : List ℕ) → AllPairs (λ m n. m < n) xs → AllPairs (λ m n. m < n) ys → ((n : ℕ) → has n xs ≡ has n ys) → xs ≡ ys
same_rising [] [] rises mounts same = refl
same_rising [] (y ∷ ys) rises mounts same = absurd (false≢true (same y ∙ ap (λ b. b || has y ys) (eqb_same y)))
same_rising (x ∷ xs) [] rises mounts same = absurd (false≢true (sym (same x) ∙ ap (λ b. b || has x xs) (eqb_same x)))
same_rising (x ∷ xs) (y ∷ ys) rises mounts same =
    ap (λ n. n ∷ xs) first ∙ ap (λ zs. y ∷ zs) (same_rising xs ys (λ i j d lt within. rises (suc i) (suc j) d (omega arith) (omega arith)) (λ i j d lt within. mounts (suc i) (suc j) d (omega arith) (omega arith)) rest)
  where
    later : All (λ z. x < z) xs
    later k d h = rises 0 (suc k) d (omega arith) (omega arith)

    next : All (λ z. y < z) ys
    next k d h = mounts 0 (suc k) d (omega arith) (omega arith)

    first : x ≡ y
    first = first_is_first x y xs ys later next (same y ∙ ap (λ b. b || has y ys) (eqb_same y)) (sym (same x) ∙ ap (λ b. b || has x xs) (eqb_same x))

    not_in : (n : ℕ) (zs : List ℕ) → All (λ z. n < z) zs → has n zs ≡ false
    not_in n zs all = has_none n zs (λ k d h. let lt = all k d h in λ e. absurd (omega arith))

    rest : (n : ℕ) → has n xs ≡ has n ys
    rest n = by_case (cases_eq x n)
      where
        by_case : (x ≡ n) ⊎ (x ≢ n) → has n xs ≡ has n ys
        by_case (inl is) = ap (λ m. has m xs) (sym is) ∙ (not_in x xs later ∙ sym (ap (λ m. has m ys) (sym is ∙ first) ∙ not_in y ys next))
        by_case (inr other) =
            sym (ap (λ b. b || has n xs) (ne_eqb x n other)) ∙ (same n ∙ ap (λ b. b || has n ys) (ne_eqb y n (λ e. other (first ∙ e))))
