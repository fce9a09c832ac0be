-- Lemmas on lists: what stands in a list, fronts that are whole, lists that rise, and going over the places of a list.
use Rattle.std.proofs.Common.{◌≡◌, ℕ, zero, suc, ◌+◌, ◌<◌, ◌≤◌, Bool, false, cond, List, [], ◌∷◌, ◌++◌, length, map, filter, filter_map, get_or, All, AllPairs, Contains, Option, Some, None, slice_get, ◌⊎◌, inl, inr, ⊎_elim, refl, sym, ap, ◌∙◌, subst, arith, append-nil, append_assoc, length-append}
use Rattle.std.specs.List.{cons_option, range_with_len}
use Rattle.std.proofs.lemmas.List.{length_push, get_or_append_left, map-append}
use Rattle.std.proofs.lemmas.List.Elements.{All-nil, All-cons, All-weaker, All-contains, All-contains_itself, Contains-append_right, filter_map-append}
use Rattle.std.proofs.lemmas.List.FromFn.{length-range_with_len, get_or-range_with_len}
use Rattle.std.proofs.lemmas.Option.{slice_get_within, get_or_from_slice_get, slice_get-get_or}
use Rattle.lists.proofs.Filters.{tested_by, filter_map-filter}
use Rattle.lists.proofs.Lists.{All-filter_map, filter_map-agree, slice_get-at}
use Rattle.lists.proofs.Parts.{then}
use Rattle.transcripts.specs.Lawful.{IsPrefix}

-- ---- what stands in a list

pub Contains-slice_get : {X : Type 0} (xs : List X) (k : ℕ) (x : X) → slice_get xs k ≡ Some x → Contains xs x
Contains-slice_get xs k x e = (k, slice_get_within xs k x e, get_or_from_slice_get xs k x x e)

-- the place of what stands in it
pub slice_get-Contains : {X : Type 0} (xs : List X) (x : X) (c : Contains xs x) → slice_get xs c.0 ≡ Some x
slice_get-Contains xs x c = slice_get-get_or xs c.0 x c.1 ∙ ap (λ y. Some y) c.2

pub Contains-length : {X : Type 0} (xs : List X) (x : X) → Contains xs x → 0 < length xs
Contains-length xs x c = let within : c.0 < length xs = c.1 in omega arith

-- what a partial function gives comes from an item
pub from_filter_map : {X Y : Type 0} (h : X → Option Y) (xs : List X) (y : Y) → Contains (filter_map h xs) y → (x : X) × Contains xs x × (h x ≡ Some y)
from_filter_map {X} {Y} h xs y c = All-contains Comes (filter_map h xs) y
    (All-filter_map Comes h xs (All-weaker (Contains xs) (λ x. (z : Y) → h x ≡ Some z → Comes z) (λ x k z e. (x, k, e)) xs (All-contains_itself xs))) c
  where
    Comes : Y → Type 0
    Comes z = (x : X) × Contains xs x × (h x ≡ Some z)

-- and what it gives of an item stands there
pub into_filter_map : {X Y : Type 0} (h : X → Option Y) (xs : List X) (x : X) (y : Y) → Contains xs x → h x ≡ Some y → Contains (filter_map h xs) y
into_filter_map {X} {Y} h xs x y c e = All-contains (Goes xs) xs x (each xs) c y e
  where
    Goes : List X → X → Type 0
    Goes us u = (z : Y) → h u ≡ Some z → Contains (filter_map h us) z

    later : (o : Option Y) (zs : List Y) (z : Y) → Contains zs z → Contains (cons_option o zs) z
    later None zs z k = k
    later (Some u) zs z k = Contains-append_right (u ∷ []) zs z k

    each : (us : List X) → All (Goes us) us
    each [] = All-nil (Goes [])
    each (u ∷ us) =
        All-cons (Goes (u ∷ us)) u us (λ z is. subst (λ o. Contains (cons_option o (filter_map h us)) z) (sym is) (zero, omega arith, refl))
        (All-weaker (Goes us) (Goes (u ∷ us)) (λ v k z is. later (h u) (filter_map h us) z (k z is)) us (each us))

-- the first item, or one of the others
pub Contains-cases : {X : Type 0} (x : X) (xs : List X) (y : X) → Contains (x ∷ xs) y → (x ≡ y) ⊎ Contains xs y
Contains-cases {X} x xs y c = by_place c.0 c.1 c.2
  where
    by_place : (k : ℕ) → k < length (x ∷ xs) → get_or (x ∷ xs) k y ≡ y → (x ≡ y) ⊎ Contains xs y
    by_place zero within is = inl is
    by_place (suc k) within is = inr (k, omega arith, is)

-- ---- the numbers below a bound

pub at_range : (P : ℕ → Type 0) (n k : ℕ) → All P (range_with_len 0 n) → k < n → P k
at_range P n k all h = subst P (get_or-range_with_len 0 n k 0 h ∙ omega arith) (all k 0 (rw length-range_with_len h))

pub in_range : (n k : ℕ) → k < n → Contains (range_with_len 0 n) k
in_range n k h = (k, rw length-range_with_len h, get_or-range_with_len 0 n k k h ∙ omega arith)

pub range_below : (n k : ℕ) → Contains (range_with_len 0 n) k → k < n
range_below n k c =
    let within : c.0 < n = subst (λ m. c.0 < m) (length-range_with_len 0 n) c.1 in
    let place : 0 + c.0 ≡ k = sym (get_or-range_with_len 0 n c.0 k within) ∙ c.2 in
    omega arith

pub range_rises : (n : ℕ) → AllPairs (λ i j. i < j) (range_with_len 0 n)
range_rises n i j d lt within =
    let below : j < n = subst (λ m. j < m) (length-range_with_len 0 n) within in
    let first : get_or (range_with_len 0 n) i d ≡ 0 + i = get_or-range_with_len 0 n i d (omega arith) in
    let second : get_or (range_with_len 0 n) j d ≡ 0 + j = get_or-range_with_len 0 n j d below in
    omega arith

-- ---- fronts

pub prefix_whole : {X : Type 0} (xs ys : List X) → IsPrefix xs ys → length ys ≤ length xs → xs ≡ ys
prefix_whole {X} xs ys h le = by_rest h.0 h.1
  where
    by_rest : (zs : List X) → xs ++ zs ≡ ys → xs ≡ ys
    by_rest [] e = sym (append-nil xs) ∙ e
    by_rest (z ∷ zs) e = absurd (omega (arith, ap length e, length-append xs (z ∷ zs)))

pub prefix_then : {X : Type 0} (xs ys zs : List X) → IsPrefix xs ys → IsPrefix ys zs → IsPrefix xs zs
prefix_then xs ys zs h k = (h.0 ++ k.0, sym (append_assoc xs h.0 k.0) ∙ (ap (λ us. us ++ k.0) h.1 ∙ k.1))

pub prefix_map : {X Y : Type 0} (f : X → Y) (xs ys : List X) → IsPrefix xs ys → IsPrefix (map f xs) (map f ys)
prefix_map f xs ys h = (map f h.0, sym (map-append f xs h.0) ∙ ap (map f) h.1)

pub prefix_filter_map : {X Y : Type 0} (g : X → Option Y) (xs ys : List X) → IsPrefix xs ys → IsPrefix (filter_map g xs) (filter_map g ys)
prefix_filter_map g xs ys h = (filter_map g h.0, sym (filter_map-append g xs h.0) ∙ ap (filter_map g) h.1)

-- ---- lists that rise

-- two lists that rise and have the same members are one
pub same_rising : (xs ys : List ℕ) → AllPairs (λ m n. m < n) xs → AllPairs (λ m n. m < n) ys → ((n : ℕ) → Contains xs n → Contains ys n)
    → ((n : ℕ) → Contains ys n → Contains xs n) → xs ≡ ys
same_rising [] [] first second to from = refl
same_rising [] (y ∷ ys) first second to from = absurd (none y (from y (zero, omega arith, refl)))
  where
    none : (n : ℕ) → Contains [] n → ⊥
    none n c = let within : c.0 < 0 = c.1 in omega arith
same_rising (x ∷ xs) [] first second to from = absurd (none x (to x (zero, omega arith, refl)))
  where
    none : (n : ℕ) → Contains [] n → ⊥
    none n c = let within : c.0 < 0 = c.1 in omega arith
same_rising (x ∷ xs) (y ∷ ys) first second to from =
    ap (λ z. z ∷ xs) heads
    ∙ ap (λ zs. y ∷ zs) (same_rising xs ys (rest x xs first) (rest y ys second)
    (λ n c. later y ys n (past x xs first n c) (sym heads) (to n (Contains-append_right (x ∷ []) xs n c)))
    (λ n c. later x xs n (past y ys second n c) heads (from n (Contains-append_right (y ∷ []) ys n c))))
  where
    rest : (u : ℕ) (us : List ℕ) → AllPairs (λ m n. m < n) (u ∷ us) → AllPairs (λ m n. m < n) us
    rest u us all i j d lt within = all (suc i) (suc j) d (omega arith) (omega arith)

    past : (u : ℕ) (us : List ℕ) → AllPairs (λ m n. m < n) (u ∷ us) → (n : ℕ) → Contains us n → u < n
    past u us all n c = All-contains (λ m. u < m) us n (λ k d lt. all 0 (suc k) d (omega arith) (omega arith)) c

    low : (u : ℕ) (us : List ℕ) → AllPairs (λ m n. m < n) (u ∷ us) → (n : ℕ) → Contains (u ∷ us) n → u ≤ n
    low u us all n c = ⊎_elim (λ same. omega arith) (λ k. let less = past u us all n k in omega arith) (Contains-cases u us n c)

    heads : x ≡ y
    heads =
        let up = low y ys second x (to x (zero, omega arith, refl)) in
        let down = low x xs first y (from y (zero, omega arith, refl)) in
        omega arith

    -- what lies past another head lies past the own
    later : (u : ℕ) (us : List ℕ) (n : ℕ) → {v : ℕ} → v < n → u ≡ v → Contains (u ∷ us) n → Contains us n
    later u us n {v} less same c = ⊎_elim (λ is. absurd (omega arith)) (λ k. k) (Contains-cases u us n c)

pub AllPairs-front : {X : Type 0} (R : X → X → Type 0) (xs ys : List X) → AllPairs R (xs ++ ys) → AllPairs R xs
AllPairs-front R xs ys all i j d lt within =
    subst (λ x. R x (get_or xs j d)) (get_or_append_left xs ys d i (omega arith))
    (subst (R (get_or (xs ++ ys) i d)) (get_or_append_left xs ys d j within) (all i j d lt (omega (arith, length-append xs ys))))

-- pairs of what a partial function gives
pub AllPairs-from_given : {X Y : Type 0} (R : Y → Y → Type 0) (h : X → Option Y) (xs : List X) → AllPairs R (filter_map h xs)
    → AllPairs (λ x u. (y z : Y) → h x ≡ Some y → h u ≡ Some z → R y z) xs
AllPairs-from_given {X} {Y} R h [] all = λ i j d lt within. absurd (omega arith)
AllPairs-from_given {X} {Y} R h (x ∷ xs) all = by_head (AllPairs-from_given R h xs) (h x) refl all
  where
    Pairs : X → X → Type 0
    Pairs a b = (y z : Y) → h a ≡ Some y → h b ≡ Some z → R y z

    front : All (Pairs x) xs → AllPairs Pairs xs → AllPairs Pairs (x ∷ xs)
    front first later zero zero d lt within = absurd (omega arith)
    front first later zero (suc j) d lt within = first j d (omega arith)
    front first later (suc i) zero d lt within = absurd (omega arith)
    front first later (suc i) (suc j) d lt within = later i j d (omega arith) (omega arith)

    none : (y : Y) → None ≡ Some y → ⊥
    none y e = cc

    same : (a b : Y) → Some a ≡ Some b → a ≡ b
    same a b e = cc

    by_head : (AllPairs R (filter_map h xs) → AllPairs Pairs xs) → (o : Option Y) → h x ≡ o → AllPairs R (cons_option o (filter_map h xs)) → AllPairs Pairs (x ∷ xs)
    by_head rest None is pairs = front (λ k d lt y z e i. absurd (none y (sym is ∙ e))) (rest pairs)
    by_head rest (Some u) is pairs =
        front
        (λ k d lt y z e i. subst (λ v. R v z) (same u y (sym is ∙ e))
        (All-contains (R u) (filter_map h xs) z (λ j c m. pairs 0 (suc j) c (omega arith) (omega arith))
        (into_filter_map h xs (get_or xs k d) z (All-contains_itself xs k d lt) i)))
        (rest (λ i j d lt within. pairs (suc i) (suc j) d (omega arith) (omega arith)))

-- ---- going over places is going over items

pub by_place : {X Y : Type 0} (g : X → Option Y) (xs : List X) → filter_map (λ n. then g (slice_get xs n)) (range_with_len 0 (length xs)) ≡ filter_map g xs
by_place {X} {Y} g xs = from [] xs
  where
    from : (front us : List X) → filter_map (λ n. then g (slice_get (front ++ us) n)) (range_with_len (length front) (length us)) ≡ filter_map g us
    from front [] = refl
    from front (u ∷ us) =
        ap (λ o. cons_option (then g o) (filter_map (λ n. then g (slice_get (front ++ u ∷ us) n)) (range_with_len (length front + 1) (length us))))
        (slice_get-at front (u ∷ us))
        ∙ ap (cons_option (g u))
        (subst (λ k. filter_map (λ n. then g (slice_get (front ++ u ∷ us) n)) (range_with_len k (length us)) ≡ filter_map g us) (length_push front u)
        (subst (λ vs. filter_map (λ n. then g (slice_get vs n)) (range_with_len (length (front ++ u ∷ [])) (length us)) ≡ filter_map g us)
        (append_assoc front (u ∷ []) us) (from (front ++ u ∷ []) us)))

-- whether what stands there passes
abbrev pub has_test : {X : Type 0} → (X → Bool) → Option X → Bool
has_test test None = false
has_test test (Some x) = test x

-- the same of the items that pass
pub by_tested_place : {X Y : Type 0} (g : X → Option Y) (test : X → Bool) (xs : List X)
    → filter_map (λ n. then g (slice_get xs n)) (filter (λ n. has_test test (slice_get xs n)) (range_with_len 0 (length xs))) ≡ filter_map g (filter test xs)
by_tested_place {X} {Y} g test xs =
    filter_map-filter (λ n. then g (slice_get xs n)) (λ n. has_test test (slice_get xs n)) (range_with_len 0 (length xs))
    ∙ (filter_map-agree (tested_by (λ n. has_test test (slice_get xs n)) (λ n. then g (slice_get xs n))) (λ n. then (tested_by test g) (slice_get xs n)) (range_with_len 0 (length xs))
    (λ k d lt. agree (slice_get xs (get_or (range_with_len 0 (length xs)) k d)))
    ∙ (by_place (tested_by test g) xs ∙ sym (filter_map-filter g test xs)))
  where
    agree : (o : Option X) → cond (has_test test o) (then g o) None ≡ then (tested_by test g) o
    agree None = refl
    agree (Some x) = refl
