-- Lemmas on lists: the front that passes a test and what stands from the first that fails on, and items that are tagged with the
-- number that they come from.
use Rattle.std.proofs.Common.{◌≡◌, ◌≢◌, ℕ, zero, suc, Bool, true, false, cond, ◌||◌, ◌==◌, List, [], ◌∷◌, ◌++◌, length, map, drop, take_while, flat_map, get_or, All, AllPairs, Contains, ◌⊎◌, inl, inr, ⊎_elim, refl, sym, ap, ◌∙◌, subst, arith, append-nil}
use Rattle.std.proofs.lemmas.Bool.{cases_Bool, cases_eq, false≢true, or_cases, or_left, or_right, cond-true, cond-false, cond_both}
use Rattle.std.proofs.lemmas.List.{map-append}
use Rattle.std.proofs.lemmas.List.Concat.{flat_map-append}
use Rattle.std.proofs.lemmas.List.Elements.{All-nil, All-cons, All-head, All-tail, All-weaker, All-append, Contains-append_right}
use Rattle.std.proofs.lemmas.List.Sums.{take_while-cons}
use Rattle.lists.specs.Lists.{has}
use Rattle.lists.specs.Lists.{upto, from_first}
use Rattle.lists.proofs.Lists.{eqb_same, eqb_other, eqb_is, has-append, has-more, All-has, All-back, All-weaker_all, upto-more, flat_map-agree}

-- ---- the front that passes, and the rest

pub front_and_rest : (p : ℕ → Bool) (xs : List ℕ) → take_while p xs ++ from_first p xs ≡ xs
front_and_rest p [] = refl
front_and_rest p (x ∷ xs) =
    ap (λ ys. ys ++ from_first p (x ∷ xs)) (take_while-cons p x xs) ∙ by_case (p x) (take_while p xs) (from_first p xs) (front_and_rest p xs)
  where
    by_case : (b : Bool) (ys zs : List ℕ) → ys ++ zs ≡ xs → cond b (x ∷ ys) [] ++ cond b zs (x ∷ xs) ≡ x ∷ xs
    by_case true ys zs e = ap (λ us. x ∷ us) e
    by_case false ys zs e = refl

pub front_passes : (p : ℕ → Bool) (xs : List ℕ) → All (λ n. p n ≡ true) (take_while p xs)
front_passes p [] = All-nil (λ n. p n ≡ true)
front_passes p (x ∷ xs) =
    subst (All (λ n. p n ≡ true)) (sym (take_while-cons p x xs))
    (cond_both (p x) (x ∷ take_while p xs) [] (All (λ n. p n ≡ true))
    (λ passes. All-cons (λ n. p n ≡ true) x (take_while p xs) passes (front_passes p xs))
    (λ _. All-nil (λ n. p n ≡ true)))

front_next : (p : ℕ → Bool) (x : ℕ) (xs : List ℕ) → p x ≡ true → take_while p (x ∷ xs) ≡ x ∷ take_while p xs
front_next p x xs h = take_while-cons p x xs ∙ cond-true (p x) (x ∷ take_while p xs) [] h

front_ends : (p : ℕ → Bool) (x : ℕ) (xs : List ℕ) → p x ≡ false → take_while p (x ∷ xs) ≡ []
front_ends p x xs h = take_while-cons p x xs ∙ cond-false (p x) (x ∷ take_while p xs) [] h

rest_next : (p : ℕ → Bool) (x : ℕ) (xs : List ℕ) → p x ≡ true → from_first p (x ∷ xs) ≡ from_first p xs
rest_next p x xs h = cond-true (p x) (from_first p xs) (x ∷ xs) h

rest_ends : (p : ℕ → Bool) (x : ℕ) (xs : List ℕ) → p x ≡ false → from_first p (x ∷ xs) ≡ x ∷ xs
rest_ends p x xs h = cond-false (p x) (from_first p xs) (x ∷ xs) h

pub has_rest : (p : ℕ → Bool) (n : ℕ) (xs : List ℕ) → has n (from_first p xs) ≡ true → has n xs ≡ true
has_rest p n xs h =
    subst (λ ys. has n ys ≡ true) (front_and_rest p xs)
    (has-append n (take_while p xs) (from_first p xs) ∙ or_right (has n (take_while p xs)) (has n (from_first p xs)) h)

pub has_front : (p : ℕ → Bool) (n : ℕ) (xs : List ℕ) → has n (take_while p xs) ≡ true → has n xs ≡ true
has_front p n xs h = subst (λ ys. has n ys ≡ true) (front_and_rest p xs) (has-more n (take_while p xs) (from_first p xs) h)

-- one more item that fails
pub front-push : (p : ℕ → Bool) (xs : List ℕ) (n : ℕ) → p n ≡ false → take_while p (xs ++ n ∷ []) ≡ take_while p xs
front-push p [] n h = front_ends p n [] h
front-push p (x ∷ xs) n h =
    take_while-cons p x (xs ++ n ∷ []) ∙ (ap (λ ys. cond (p x) (x ∷ ys) []) (front-push p xs n h) ∙ sym (take_while-cons p x xs))

-- two tests that agree
pub front_agree : (p q : ℕ → Bool) (xs : List ℕ) → ((n : ℕ) → p n ≡ q n) → take_while p xs ≡ take_while q xs
front_agree p q [] h = refl
front_agree p q (x ∷ xs) h =
    take_while-cons p x xs ∙ (ap (λ b. cond b (x ∷ take_while p xs) []) (h x)
    ∙ (ap (λ ys. cond (q x) (x ∷ ys) []) (front_agree p q xs h) ∙ sym (take_while-cons q x xs)))

-- a test that passes more
pub rest_after : (p q : ℕ → Bool) (xs : List ℕ) → ((n : ℕ) → p n ≡ true → q n ≡ true) → from_first q xs ≡ from_first q (from_first p xs)
rest_after p q [] h = refl
rest_after p q (x ∷ xs) h =
    cond_both (p x) (from_first p xs) (x ∷ xs) (λ ys. from_first q (x ∷ xs) ≡ from_first q ys)
    (λ passes. rest_next q x xs (h x passes) ∙ rest_after p q xs h) (λ _. refl)

pub front_after : (p q : ℕ → Bool) (xs : List ℕ) → ((n : ℕ) → p n ≡ true → q n ≡ true)
    → take_while q xs ≡ take_while p xs ++ take_while q (from_first p xs)
front_after p q [] h = refl
front_after p q (x ∷ xs) h = by_case (cases_Bool (p x)) (front_after p q xs h)
  where
    by_case : (p x ≡ true) ⊎ (p x ≡ false) → take_while q xs ≡ take_while p xs ++ take_while q (from_first p xs)
        → take_while q (x ∷ xs) ≡ take_while p (x ∷ xs) ++ take_while q (from_first p (x ∷ xs))
    by_case (inl passes) more =
        front_next q x xs (h x passes) ∙ (ap (λ ys. x ∷ ys) more
        ∙ (ap (λ ys. x ∷ (take_while p xs ++ take_while q ys)) (sym (rest_next p x xs passes))
        ∙ ap (λ ys. ys ++ take_while q (from_first p (x ∷ xs))) (sym (front_next p x xs passes))))
    by_case (inr fails) more =
        ap (take_while q) (sym (rest_ends p x xs fails)) ∙ ap (λ ys. ys ++ take_while q (from_first p (x ∷ xs))) (sym (front_ends p x xs fails))

-- the front and the rest of what a function makes of each
pub front-map : {Y : Type 0} (t : Y → Bool) (f : ℕ → Y) (xs : List ℕ) → take_while t (map f xs) ≡ map f (take_while (λ n. t (f n)) xs)
front-map t f [] = refl
front-map t f (x ∷ xs) =
    take_while-cons t (f x) (map f xs) ∙ (ap (λ ys. cond (t (f x)) (f x ∷ ys) []) (front-map t f xs)
    ∙ (by_case (t (f x)) ∙ ap (map f) (sym (take_while-cons (λ n. t (f n)) x xs))))
  where
    by_case : (b : Bool) → cond b (f x ∷ map f (take_while (λ n. t (f n)) xs)) [] ≡ map f (cond b (x ∷ take_while (λ n. t (f n)) xs) [])
    by_case true = refl
    by_case false = refl

drop_front : {X : Type 0} (xs ys : List X) → drop (length xs) (xs ++ ys) ≡ ys
drop_front [] ys = refl
drop_front (x ∷ xs) ys = drop_front xs ys

pub rest-map : {Y : Type 0} (t : Y → Bool) (f : ℕ → Y) (xs : List ℕ)
    → drop (length (take_while t (map f xs))) (map f xs) ≡ map f (from_first (λ n. t (f n)) xs)
rest-map t f xs =
    ap (λ ys. drop (length ys) (map f xs)) (front-map t f xs)
    ∙ (ap (λ ys. drop (length (map f (take_while (λ n. t (f n)) xs))) (map f ys)) (sym (front_and_rest (λ n. t (f n)) xs))
    ∙ (ap (drop (length (map f (take_while (λ n. t (f n)) xs)))) (map-append f (take_while (λ n. t (f n)) xs) (from_first (λ n. t (f n)) xs))
    ∙ drop_front (map f (take_while (λ n. t (f n)) xs)) (map f (from_first (λ n. t (f n)) xs))))

-- ---- the numbers as far as one

All-upto : (P : ℕ → Type 0) (n : ℕ) (xs : List ℕ) → All P xs → All P (upto n xs)
All-upto P n [] all = all
All-upto P n (m ∷ ms) all =
    All-cons P m (cond (m == n) [] (upto n ms)) (All-head P m ms all)
    (cond_both (m == n) [] (upto n ms) (All P) (λ _. All-nil P) (λ _. All-upto P n ms (All-tail P m ms all)))

-- as far as one of the front all pass
pub upto_front : (p : ℕ → Bool) (n : ℕ) (xs : List ℕ) → has n (take_while p xs) ≡ true → All (λ m. p m ≡ true) (upto n xs)
upto_front p n xs h =
    subst (λ ys. All (λ m. p m ≡ true) (upto n ys)) (front_and_rest p xs)
    (subst (All (λ m. p m ≡ true)) (sym (upto-more n (take_while p xs) (from_first p xs) h))
    (All-upto (λ m. p m ≡ true) n (take_while p xs) (front_passes p xs)))

-- as far as one of the rest one fails
pub upto_rest : (p : ℕ → Bool) (n : ℕ) (xs : List ℕ) → AllPairs (λ j k. j ≢ k) xs → has n (from_first p xs) ≡ true
    → (m : ℕ) × Contains (upto n xs) m × (p m ≡ false)
upto_rest p n [] once h = absurd (false≢true h)
upto_rest p n (x ∷ xs) once h = by_case (cases_Bool (p x)) (upto_rest p n xs (λ i j d lt within. once (suc i) (suc j) d (omega arith) (omega arith)))
  where
    later : (m : ℕ) × Contains (upto n xs) m × (p m ≡ false) → has n xs ≡ true → (m : ℕ) × Contains (upto n (x ∷ xs)) m × (p m ≡ false)
    later found in' = (
      found.0,
      subst (λ ys. Contains (x ∷ ys) found.0)
          (sym (cond-false (x == n) [] (upto n xs) (eqb_other x n
          (All-has (λ k. x ≢ k) n xs (λ k d lt. once 0 (suc k) d (omega arith) (omega arith)) in'))))
          (Contains-append_right (x ∷ []) (upto n xs) found.0 found.1),
      found.2,
    )

    by_case : (p x ≡ true) ⊎ (p x ≡ false) → (has n (from_first p xs) ≡ true → (m : ℕ) × Contains (upto n xs) m × (p m ≡ false))
        → (m : ℕ) × Contains (upto n (x ∷ xs)) m × (p m ≡ false)
    by_case (inl passes) more =
        let in' : has n (from_first p xs) ≡ true = subst (λ ys. has n ys ≡ true) (rest_next p x xs passes) h in
        later (more in') (has_rest p n xs in')
    by_case (inr fails) more = (x, (zero, omega arith, refl), fails)

-- of two numbers only one stands as far as the other
pub upto_apart : (m n : ℕ) (xs : List ℕ) → m ≢ n → has m (upto n xs) ≡ true → has n (upto m xs) ≡ false
upto_apart m n [] apart h = refl
upto_apart m n (x ∷ xs) apart h = by_case (x == n) (x == m) refl refl h (upto_apart m n xs apart)
  where
    by_case : (b c : Bool) → (x == n) ≡ b → (x == m) ≡ c → (c || has m (cond b [] (upto n xs))) ≡ true
        → (has m (upto n xs) ≡ true → has n (upto m xs) ≡ false) → (b || has n (cond c [] (upto m xs))) ≡ false
    by_case true true d e k more = absurd (apart (sym (eqb_is x m e) ∙ eqb_is x n d))
    by_case true false d e k more = absurd (false≢true k)
    by_case false true d e k more = refl
    by_case false false d e k more = more k

-- each number stands in the front or in the rest
pub front_or_rest : (p : ℕ → Bool) (n : ℕ) (xs : List ℕ) → has n xs ≡ true → (has n (take_while p xs) ≡ true) ⊎ (has n (from_first p xs) ≡ true)
front_or_rest p n xs h =
    or_cases (has n (take_while p xs)) (has n (from_first p xs))
    (sym (has-append n (take_while p xs) (from_first p xs)) ∙ (ap (has n) (front_and_rest p xs) ∙ h))

-- as far as one of the rest the whole front stands
pub front_upto : (p : ℕ → Bool) (m n : ℕ) (xs : List ℕ) → AllPairs (λ j k. j ≢ k) xs → has m (take_while p xs) ≡ true → has n (from_first p xs) ≡ true
    → has m (upto n xs) ≡ true
front_upto p m n [] once h k = absurd (false≢true k)
front_upto p m n (x ∷ xs) once h k = by_case (cases_Bool (p x))
    (front_upto p m n xs (λ i j d lt within. once (suc i) (suc j) d (omega arith) (omega arith)))
  where
    by_case : (p x ≡ true) ⊎ (p x ≡ false) → (has m (take_while p xs) ≡ true → has n (from_first p xs) ≡ true → has m (upto n xs) ≡ true)
        → has m (upto n (x ∷ xs)) ≡ true
    by_case (inl passes) more =
        let in' : has n (from_first p xs) ≡ true = subst (λ ys. has n ys ≡ true) (rest_next p x xs passes) k in
        let differs : x ≢ n = All-has (λ j. x ≢ j) n xs (λ i d lt. once 0 (suc i) d (omega arith) (omega arith)) (has_rest p n xs in') in
        subst (λ ys. has m (x ∷ ys) ≡ true) (sym (cond-false (x == n) [] (upto n xs) (eqb_other x n differs)))
        (⊎_elim (λ here. or_left (x == m) (has m (upto n xs)) here) (λ later. or_right (x == m) (has m (upto n xs)) (more later in'))
        (or_cases (x == m) (has m (take_while p xs)) (subst (λ ys. has m ys ≡ true) (front_next p x xs passes) h)))
    by_case (inr fails) more = absurd (false≢true (subst (λ ys. has m ys ≡ true) (front_ends p x xs fails) h))

-- ---- items that are tagged with the number that they come from

abbrev pub tag : {Y : Type 0} → ℕ → List Y → List (ℕ × Y)
tag n ys = map (λ y. (n, y)) ys

abbrev pub tagged : {Y : Type 0} → (ℕ → List Y) → List ℕ → List (ℕ × Y)
tagged g ns = flat_map (λ n. map (λ y. (n, y)) (g n)) ns

pub tagged-append : {Y : Type 0} (g : ℕ → List Y) (ms ns : List ℕ) → tagged g (ms ++ ns) ≡ tagged g ms ++ tagged g ns
tagged-append g ms ns = flat_map-append (λ n. tag n (g n)) ms ns

pub tagged_agree : {Y : Type 0} (g h : ℕ → List Y) (ns : List ℕ) → All (λ n. g n ≡ h n) ns → tagged g ns ≡ tagged h ns
tagged_agree g h ns all = flat_map-agree (λ n. tag n (g n)) (λ n. tag n (h n)) ns
    (All-weaker (λ n. g n ≡ h n) (λ n. tag n (g n) ≡ tag n (h n)) (λ n e. ap (tag n) e) ns all)

pub tagged_none : {Y : Type 0} (g : ℕ → List Y) (ns : List ℕ) → All (λ n. g n ≡ []) ns → tagged g ns ≡ []
tagged_none g [] all = refl
tagged_none g (n ∷ ns) all =
    ap (λ ys. tag n ys ++ tagged g ns) (All-head (λ k. g k ≡ []) n ns all) ∙ tagged_none g ns (All-tail (λ k. g k ≡ []) n ns all)

tag_nil : {Y : Type 0} (n : ℕ) (ys : List Y) (zs : List (ℕ × Y)) → tag n ys ++ zs ≡ [] → (ys ≡ []) × (zs ≡ [])
tag_nil n [] zs e = (refl, e)
tag_nil n (y ∷ ys) zs e = absurd (cons-nil (n, y) (tag n ys ++ zs) e)
  where
    cons-nil : {X : Type 0} (x : X) (xs : List X) → x ∷ xs ≡ [] → ⊥
    cons-nil x xs e = cc

pub tagged_nil : {Y : Type 0} (g : ℕ → List Y) (ns : List ℕ) → tagged g ns ≡ [] → All (λ n. g n ≡ []) ns
tagged_nil g [] e = All-nil (λ n. g n ≡ [])
tagged_nil g (n ∷ ns) e =
    let parts = tag_nil n (g n) (tagged g ns) e in All-cons (λ k. g k ≡ []) n ns parts.0 (tagged_nil g ns parts.1)

pub All-tag : {Y : Type 0} (P : ℕ → Type 0) (n : ℕ) (ys : List Y) → P n → All (λ (x : ℕ × Y). P x.0) (tag n ys)
All-tag P n [] h = All-nil (λ (x : ℕ × _). P x.0)
All-tag P n (y ∷ ys) h = All-cons (λ (x : ℕ × _). P x.0) (n, y) (tag n ys) h (All-tag P n ys h)

-- what holds of each number holds of each tag
pub All-tagged : {Y : Type 0} (P : ℕ → Type 0) (g : ℕ → List Y) (ns : List ℕ) → All P ns → All (λ (x : ℕ × Y). P x.0) (tagged g ns)
All-tagged P g [] all = All-nil (λ (x : ℕ × _). P x.0)
All-tagged P g (n ∷ ns) all =
    All-append (λ (x : ℕ × _). P x.0) (tag n (g n)) (tagged g ns) (All-tag P n (g n) (All-head P n ns all)) (All-tagged P g ns (All-tail P n ns all))

All-tag_items : {Y : Type 0} (P : Y → Type 0) (n : ℕ) (ys : List Y) → All P ys → All (λ (x : ℕ × Y). P x.1) (tag n ys)
All-tag_items P n [] all = All-nil (λ (x : ℕ × _). P x.1)
All-tag_items P n (y ∷ ys) all = All-cons (λ (x : ℕ × _). P x.1) (n, y) (tag n ys) (All-head P y ys all) (All-tag_items P n ys (All-tail P y ys all))

pub All-tagged_items : {Y : Type 0} (P : Y → Type 0) (g : ℕ → List Y) (ns : List ℕ) → ((n : ℕ) → All P (g n))
    → All (λ (x : ℕ × Y). P x.1) (tagged g ns)
All-tagged_items P g [] all = All-nil (λ (x : ℕ × _). P x.1)
All-tagged_items P g (n ∷ ns) all = All-append (λ (x : ℕ × _). P x.1) (tag n (g n)) (tagged g ns) (All-tag_items P n (g n) (all n))
    (All-tagged_items P g ns all)

-- what holds of each tagged item holds of the first of a number's
pub All-tagged_at : {Y : Type 0} (P : ℕ × Y → Type 0) (g : ℕ → List Y) (ns : List ℕ) (n : ℕ) (y : Y) (ys : List Y) → All P (tagged g ns)
    → has n ns ≡ true → g n ≡ y ∷ ys → P (n, y)
All-tagged_at P g [] n y ys all in' first = absurd (false≢true in')
All-tagged_at P g (m ∷ ns) n y ys all in' first =
    ⊎_elim
    (λ here. All-head P (n, y) (tag n ys ++ tagged g ns) (subst (λ zs. All P (tag n zs ++ tagged g ns)) first
    (subst (λ k. All P (tag k (g k) ++ tagged g ns)) (eqb_is m n here) all)))
    (λ later. All-tagged_at P g ns n y ys (All-back P (tag m (g m)) (tagged g ns) all) later first)
    (or_cases (m == n) (has n ns) in')

-- The first tagged item is the first of its number's, and where that number has this item less, and the others are as they were,
-- the rest is left.
pub record First {Y : Type 0} (g : ℕ → List Y) (ns : List ℕ) (x : ℕ × Y) (rest : List (ℕ × Y)) : Type 0 where
  pub in_list : has x.0 ns ≡ true
  pub later : List Y
  pub first : g x.0 ≡ x.1 ∷ later
  pub less : (h : ℕ → List Y) → h x.0 ≡ later → ((m : ℕ) → m ≢ x.0 → h m ≡ g m) → tagged h ns ≡ rest
  pub follow : All (λ (y : ℕ × Y). has x.0 (upto y.0 ns) ≡ true) rest

tail_once : (n : ℕ) (ns : List ℕ) → AllPairs (λ j k. j ≢ k) (n ∷ ns) → AllPairs (λ j k. j ≢ k) ns
tail_once n ns once i j d lt within = once (suc i) (suc j) d (omega arith) (omega arith)

head_once : (n : ℕ) (ns : List ℕ) → AllPairs (λ j k. j ≢ k) (n ∷ ns) → All (λ k. n ≢ k) ns
head_once n ns once k d lt = once 0 (suc k) d (omega arith) (omega arith)

pub has_each : (ns : List ℕ) → All (λ n. has n ns ≡ true) ns
has_each [] = All-nil (λ n. has n [] ≡ true)
has_each (n ∷ ns) =
    All-cons (λ k. has k (n ∷ ns) ≡ true) n ns (or_left (n == n) (has n ns) (eqb_same n))
    (All-weaker (λ k. has k ns ≡ true) (λ k. has k (n ∷ ns) ≡ true) (λ k h. or_right (n == k) (has k ns) h) ns (has_each ns))

-- as far as another number, past the head
upto_past : (m k n : ℕ) (ns : List ℕ) → n ≢ k → has m (upto k ns) ≡ true → has m (upto k (n ∷ ns)) ≡ true
upto_past m k n ns differs h =
    subst (λ ys. has m (n ∷ ys) ≡ true) (sym (cond-false (n == k) [] (upto k ns) (eqb_other n k differs))) (or_right (n == m) (has m (upto k ns)) h)

pub tagged_first : {Y : Type 0} (g : ℕ → List Y) (ns : List ℕ) (x : ℕ × Y) (rest : List (ℕ × Y)) → AllPairs (λ j k. j ≢ k) ns → tagged g ns ≡ x ∷ rest
    → First g ns x rest
tagged_first g [] x rest once e = absurd (nil-cons x rest e)
  where
    nil-cons : {X : Type 0} (x : X) (xs : List X) → [] ≡ x ∷ xs → ⊥
    nil-cons x xs e = cc
tagged_first {Y} g (n ∷ ns) x rest once e = by_list (tagged_first g ns x rest (tail_once n ns once)) (g n) refl
  where
    others : All (λ k. n ≢ k) ns
    others = head_once n ns once

    -- nothing comes from n
    past : g n ≡ [] → First g ns x rest → First g (n ∷ ns) x rest
    past none f = record {
      in_list = or_right (n == x.0) (has x.0 ns) f.in_list;
      later = f.later;
      first = f.first;
      less =
          λ h here other. ap (λ ys. tag n ys ++ tagged h ns) (other n (All-has (λ k. n ≢ k) x.0 ns others f.in_list) ∙ none) ∙ f.less h here other;
      follow =
          All-weaker_all (λ (y : ℕ × Y). has y.0 ns ≡ true) (λ y. has x.0 (upto y.0 ns) ≡ true) (λ y. has x.0 (upto y.0 (n ∷ ns)) ≡ true) rest
          (All-tail (λ (y : ℕ × Y). has y.0 ns ≡ true) x rest
          (subst (All (λ (y : ℕ × Y). has y.0 ns ≡ true)) e_past (All-tagged (λ k. has k ns ≡ true) g ns (has_each ns))))
          (λ y in' k. upto_past x.0 y.0 n ns (All-has (λ j. n ≢ j) y.0 ns others in') k) f.follow;
    }
      where
        e_past : tagged g ns ≡ x ∷ rest
        e_past = ap (λ ys. tag n ys ++ tagged g ns) (sym none) ∙ e

    -- the first comes from n
    here : (y : Y) (ys : List Y) → g n ≡ y ∷ ys → First g (n ∷ ns) (n, y) (tag n ys ++ tagged g ns)
    here y ys is = record {
      in_list = or_left (n == n) (has n ns) (eqb_same n);
      later = ys;
      first = is;
      less =
          λ h same other. ap (λ zs. tag n zs ++ tagged h ns) same
          ∙ ap (λ zs. tag n ys ++ zs) (tagged_agree h g ns
          (All-weaker (λ k. n ≢ k) (λ k. h k ≡ g k) (λ k differs. other k (λ s. differs (sym s))) ns others));
      follow = λ k d lt. or_left (n == n) (has n
          (cond (n == (get_or (tag n ys ++ tagged g ns) k d).0) [] (upto (get_or (tag n ys ++ tagged g ns) k d).0 ns))) (eqb_same n);
    }

    by_list : (tagged g ns ≡ x ∷ rest → First g ns x rest) → (ys : List Y) → g n ≡ ys → First g (n ∷ ns) x rest
    by_list more [] none = past none (more (ap (λ ys. tag n ys ++ tagged g ns) (sym none) ∙ e))
    by_list more (y ∷ ys) is =
        let same : (n, y) ∷ (tag n ys ++ tagged g ns) ≡ x ∷ rest = ap (λ zs. tag n zs ++ tagged g ns) (sym is) ∙ e in
        subst (λ z. First g (n ∷ ns) z rest) (heads (n, y) x (tag n ys ++ tagged g ns) rest same)
        (subst (First g (n ∷ ns) (n, y)) (tails (n, y) x (tag n ys ++ tagged g ns) rest same) (here y ys is))
      where
        heads : {X : Type 0} (a b : X) (as' bs : List X) → a ∷ as' ≡ b ∷ bs → a ≡ b
        heads a b as' bs e = cc

        tails : {X : Type 0} (a b : X) (as' bs : List X) → a ∷ as' ≡ b ∷ bs → as' ≡ bs
        tails a b as' bs e = cc

-- items of one number alone
pub tagged_single : {Y : Type 0} (g : ℕ → List Y) (ns : List ℕ) (n : ℕ) (ys : List Y) → AllPairs (λ j k. j ≢ k) ns → has n ns ≡ true → g n ≡ ys
    → All (λ m. m ≢ n → g m ≡ []) ns → tagged g ns ≡ tag n ys
tagged_single g [] n ys once h e none = absurd (false≢true h)
tagged_single g (m ∷ ns) n ys once h e none = by_case (tagged_single g ns n ys (tail_once m ns once)) (cases_eq m n)
  where
    by_case : (has n ns ≡ true → g n ≡ ys → All (λ k. k ≢ n → g k ≡ []) ns → tagged g ns ≡ tag n ys) → (m ≡ n) ⊎ (m ≢ n)
        → tagged g (m ∷ ns) ≡ tag n ys
    by_case more (inl same) =
        ap (λ zs. tag m (g m) ++ zs) (tagged_none g ns (All-weaker_all (λ k. m ≢ k) (λ k. k ≢ n → g k ≡ []) (λ k. g k ≡ []) ns (head_once m ns once)
        (λ k differs to. to (λ s. differs (same ∙ sym s))) (All-tail (λ k. k ≢ n → g k ≡ []) m ns none)))
        ∙ (append-nil (tag m (g m)) ∙ (ap (λ k. tag k (g k)) same ∙ ap (tag n) e))
    by_case more (inr differs) =
        ap (λ zs. tag m zs ++ tagged g ns) (All-head (λ k. k ≢ n → g k ≡ []) m ns none differs)
        ∙ more (subst (λ b. (b || has n ns) ≡ true) (eqb_other m n differs) h) e
        (All-tail (λ k. k ≢ n → g k ≡ []) m ns none)

-- what a function makes of tagged items
pub map_tag : {Y Z : Type 0} (f : ℕ × Y → Z) (n : ℕ) (ys : List Y) → map f (tag n ys) ≡ map (λ y. f (n, y)) ys
map_tag f n [] = refl
map_tag f n (y ∷ ys) = ap (λ zs. f (n, y) ∷ zs) (map_tag f n ys)

pub map-tagged : {Y Z : Type 0} (f : ℕ × Y → Z) (g : ℕ → List Y) (ns : List ℕ) → map f (tagged g ns) ≡ flat_map (λ n. map (λ y. f (n, y)) (g n)) ns
map-tagged f g [] = refl
map-tagged f g (n ∷ ns) =
    map-append f (tag n (g n)) (tagged g ns)
    ∙ (ap (λ zs. zs ++ map f (tagged g ns)) (map_tag f n (g n)) ∙ ap (λ zs. map (λ y. f (n, y)) (g n) ++ zs) (map-tagged f g ns))

pub flat_map-map : {X Y : Type 0} (f : X → List Y) (g : ℕ → X) (ns : List ℕ) → flat_map f (map g ns) ≡ flat_map (λ n. f (g n)) ns
flat_map-map f g [] = refl
flat_map-map f g (n ∷ ns) = ap (λ zs. f (g n) ++ zs) (flat_map-map f g ns)
