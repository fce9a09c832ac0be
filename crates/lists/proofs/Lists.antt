-- Lemmas on lists: one more item at the end, and what holds of each item.
use Rattle.std.proofs.Common.{◌≡◌, ◌≢◌, ℕ, zero, suc, ◌+◌, ◌<◌, ◌≤◌, Bool, true, false, cond, ◌&&◌, ◌||◌, ◌==◌, List, [], ◌∷◌, ◌++◌, length, map, drop, get_or, filter, All, AllPairs, Contains, Option, Some, None, slice_get, filter_map, flat_map, ⊎_elim, refl, sym, ap, ◌∙◌, subst, arith, add-one, append_assoc, append-nil, eq-eqb, eqb-true, ne_eqb}
use Rattle.std.specs.List.{list_any, cons_option}
use Rattle.std.proofs.lemmas.Bool.{cases_Bool, cases_eq, false≢true, or_parts, or_from, or_left, or_right, cond-true, cond-false, cond_both}
use Rattle.std.proofs.lemmas.List.{get_or-drop, length-drop, length_push, get_or_append_left, get_or_push, length-append, drop-drop, drop-append-le}
use Rattle.std.proofs.lemmas.List.Elements.{filter_map-append, filter-append, All-nil, All-cons, All-head, All-tail, All-push, All-weaker, All-contains, Contains-get_or, Contains-append_right}
use Rattle.std.proofs.lemmas.List.Quantifiers.{all_pairs_push}
use Rattle.std.proofs.lemmas.Option.{slice_get_within, get_or_from_slice_get, none-some, same_Some}
use Rattle.lists.specs.Lists.{has}
use Rattle.lists.specs.Lists.{with_past, upto, from_first}

-- ---- numbers

pub eqb_same : (n : ℕ) → (n == n) ≡ true
eqb_same n = eq-eqb n n refl

pub eqb_other : (m n : ℕ) → m ≢ n → (m == n) ≡ false
eqb_other m n h = ne_eqb m n h

pub eqb_comm : (m n : ℕ) → (m == n) ≡ (n == m)
eqb_comm m n = ⊎_elim (λ same. rw same) (λ other. eqb_other m n other ∙ sym (eqb_other n m (λ e. other (sym e)))) (cases_eq m n)

pub eqb_is : (m n : ℕ) → (m == n) ≡ true → m ≡ n
eqb_is m n h = eqb-true m n h

-- ---- filter_map with one more item

pub filter_map-push : {X Y : Type 0} (h : X → Option Y) (xs : List X) (x : X) → filter_map h (xs ++ x ∷ []) ≡ filter_map h xs ++ cons_option (h x) []
filter_map-push h xs x = filter_map-append h xs (x ∷ [])

pub more_some : {X Y : Type 0} (h : X → Option Y) (xs : List X) (x : X) (y : Y) → h x ≡ Some y
    → filter_map h (xs ++ x ∷ []) ≡ filter_map h xs ++ y ∷ []
more_some h xs x y e = filter_map-push h xs x ∙ ap (λ o. filter_map h xs ++ cons_option o []) e

pub more_none : {X Y : Type 0} (h : X → Option Y) (xs : List X) (x : X) → h x ≡ None → filter_map h (xs ++ x ∷ []) ≡ filter_map h xs
more_none h xs x e = filter_map-push h xs x ∙ (ap (λ o. filter_map h xs ++ cons_option o []) e ∙ append-nil (filter_map h xs))

-- where h gives nothing there is nothing
pub filter_map-none : {X Y : Type 0} (h : X → Option Y) (xs : List X) → All (λ x. h x ≡ None) xs → filter_map h xs ≡ []
filter_map-none h [] all = refl
filter_map-none h (x ∷ xs) all =
    ap (λ o. cons_option o (filter_map h xs)) (All-head (λ y. h y ≡ None) x xs all) ∙ filter_map-none h xs (All-tail (λ y. h y ≡ None) x xs all)

-- two functions that agree at each item
pub filter_map-agree : {X Y : Type 0} (g h : X → Option Y) (xs : List X) → All (λ x. g x ≡ h x) xs → filter_map g xs ≡ filter_map h xs
filter_map-agree g h [] all = refl
filter_map-agree g h (x ∷ xs) all =
    ap (λ o. cons_option o (filter_map g xs)) (All-head (λ y. g y ≡ h y) x xs all)
    ∙ ap (cons_option (h x)) (filter_map-agree g h xs (All-tail (λ y. g y ≡ h y) x xs all))

pub map_agree : {X Y : Type 0} (g h : X → Y) (xs : List X) → All (λ x. g x ≡ h x) xs → map g xs ≡ map h xs
map_agree g h [] all = refl
map_agree g h (x ∷ xs) all =
    ap (λ y. y ∷ map g xs) (All-head (λ y. g y ≡ h y) x xs all) ∙ ap (λ ys. h x ∷ ys) (map_agree g h xs (All-tail (λ y. g y ≡ h y) x xs all))

pub flat_map-agree : {X Y : Type 0} (g h : X → List Y) (xs : List X) → All (λ x. g x ≡ h x) xs → flat_map g xs ≡ flat_map h xs
flat_map-agree g h [] all = refl
flat_map-agree g h (x ∷ xs) all =
    ap (λ ys. ys ++ flat_map g xs) (All-head (λ y. g y ≡ h y) x xs all)
    ∙ ap (λ ys. h x ++ ys) (flat_map-agree g h xs (All-tail (λ y. g y ≡ h y) x xs all))

-- ---- with_past with one more item

pub with_past-push : {X Y : Type 0} (f : List X → X → Option Y) (past xs : List X) (x : X)
    → with_past f past (xs ++ x ∷ []) ≡ with_past f past xs ++ cons_option (f (past ++ xs) x) []
with_past-push f past [] x = rw append-nil
with_past-push f past (y ∷ xs) x =
    ap (cons_option (f past y)) (with_past-push f (past ++ y ∷ []) xs x
    ∙ ap (λ zs. with_past f (past ++ y ∷ []) xs ++ cons_option (f zs x) []) (append_assoc past (y ∷ []) xs))
    ∙ cons_option-append (f past y) (with_past f (past ++ y ∷ []) xs) (cons_option (f (past ++ y ∷ xs) x) [])
  where
    cons_option-append : {Y : Type 0} (o : Option Y) (ys zs : List Y) → cons_option o (ys ++ zs) ≡ cons_option o ys ++ zs
    cons_option-append None ys zs = refl
    cons_option-append (Some y) ys zs = refl

-- ---- tests on lists

pub list_any-append : {X : Type 0} (test : X → Bool) (xs ys : List X) → list_any test (xs ++ ys) ≡ (list_any test xs || list_any test ys)
list_any-append test [] ys = refl
list_any-append test (x ∷ xs) ys = ap (λ b. test x || b) (list_any-append test xs ys) ∙ or_assoc (test x) (list_any test xs) (list_any test ys)
  where
    or_assoc : (a b c : Bool) → (a || (b || c)) ≡ ((a || b) || c)
    or_assoc true b c = refl
    or_assoc false b c = refl

pub or-false : (b : Bool) → (b || false) ≡ b
or-false true = refl
or-false false = refl

pub list_any-push : {X : Type 0} (test : X → Bool) (xs : List X) (x : X) → list_any test (xs ++ x ∷ []) ≡ (list_any test xs || test x)
list_any-push test xs x = list_any-append test xs (x ∷ []) ∙ ap (λ b. list_any test xs || b) (or-false (test x))

pub list_any-more : {X : Type 0} (test : X → Bool) (xs ys : List X) → list_any test xs ≡ true → list_any test (xs ++ ys) ≡ true
list_any-more test xs ys h = list_any-append test xs ys ∙ or_left (list_any test xs) (list_any test ys) h

-- where the test fails at each item
pub list_any-none : {X : Type 0} (test : X → Bool) (xs : List X) → All (λ x. test x ≡ false) xs → list_any test xs ≡ false
list_any-none test [] all = refl
list_any-none test (x ∷ xs) all =
    or_from (test x) (list_any test xs) (All-head (λ y. test y ≡ false) x xs all) (list_any-none test xs (All-tail (λ y. test y ≡ false) x xs all))

pub All-from_none : {X : Type 0} (test : X → Bool) (xs : List X) → list_any test xs ≡ false → All (λ x. test x ≡ false) xs
All-from_none test [] h = All-nil (λ x. test x ≡ false)
All-from_none test (x ∷ xs) h =
    let parts = or_parts (test x) (list_any test xs) h in All-cons (λ y. test y ≡ false) x xs parts.0 (All-from_none test xs parts.1)

-- ---- has

pub has-append : (n : ℕ) (xs ys : List ℕ) → has n (xs ++ ys) ≡ (has n xs || has n ys)
has-append n xs ys = list_any-append (λ m. m == n) xs ys

pub has-push : (n : ℕ) (xs : List ℕ) (m : ℕ) → has n (xs ++ m ∷ []) ≡ (has n xs || (m == n))
has-push n xs m = list_any-push (λ k. k == n) xs m

pub has-more : (n : ℕ) (xs ys : List ℕ) → has n xs ≡ true → has n (xs ++ ys) ≡ true
has-more n xs ys h = list_any-more (λ m. m == n) xs ys h

pub has-last : (xs : List ℕ) (n : ℕ) → has n (xs ++ n ∷ []) ≡ true
has-last xs n = has-push n xs n ∙ or_right (has n xs) (n == n) (eqb_same n)

pub All-has : (P : ℕ → Type 0) (n : ℕ) (xs : List ℕ) → All P xs → has n xs ≡ true → P n
All-has P n [] all h = absurd (false≢true h)
All-has P n (x ∷ xs) all h =
    ⊎_elim
    (λ same. subst P (eqb_is x n same) (All-head P x xs all))
    (λ other. All-has P n xs (All-tail P x xs all) (subst (λ b. (b || has n xs) ≡ true) other h))
    (cases_Bool (x == n))

pub has-Contains : (xs : List ℕ) (n : ℕ) → has n xs ≡ true → Contains xs n
has-Contains xs n h = All-has (Contains xs) n xs (λ k d l. Contains-get_or xs k d l) h

-- ---- slice_get

pub slice_get-append_left : {X : Type 0} (xs ys : List X) (k : ℕ) → k < length xs → slice_get (xs ++ ys) k ≡ slice_get xs k
slice_get-append_left [] ys k h = absurd (omega arith)
slice_get-append_left (x ∷ xs) ys zero h = refl
slice_get-append_left (x ∷ xs) ys (suc k) h = slice_get-append_left xs ys k (omega arith)

pub slice_get-at : {X : Type 0} (xs ys : List X) → slice_get (xs ++ ys) (length xs) ≡ slice_get ys 0
slice_get-at [] ys = refl
slice_get-at (x ∷ xs) ys = slice_get-at xs ys

pub slice_get-last : {X : Type 0} (xs : List X) (x : X) → slice_get (xs ++ x ∷ []) (length xs) ≡ Some x
slice_get-last [] x = refl
slice_get-last (y ∷ xs) x = slice_get-last xs x

-- an item that is there
pub All-slice_get : {X : Type 0} (P : X → Type 0) (xs : List X) (k : ℕ) (x : X) → All P xs → slice_get xs k ≡ Some x → P x
All-slice_get P xs k x all e = subst P (get_or_from_slice_get xs k x x e) (all k x (slice_get_within xs k x e))

pub slice_get-some : {X : Type 0} (xs : List X) (k : ℕ) → k < length xs → (x : X) × (slice_get xs k ≡ Some x)
slice_get-some [] k h = absurd (omega arith)
slice_get-some (x ∷ xs) zero h = (x, refl)
slice_get-some (x ∷ xs) (suc k) h = slice_get-some xs k (omega arith)

-- the first item that isn't dropped
pub drop-slice_get : {X : Type 0} (xs : List X) (k : ℕ) (x : X) → slice_get xs k ≡ Some x → drop k xs ≡ x ∷ drop (k + 1) xs
drop-slice_get xs k x e = rw add-one (by_suc xs k x e)
  where
    by_suc : {X : Type 0} (xs : List X) (k : ℕ) (x : X) → slice_get xs k ≡ Some x → drop k xs ≡ x ∷ drop (suc k) xs
    by_suc [] k x e = absurd (none-some x e)
    by_suc (y ∷ xs) zero x e = ap (λ z. z ∷ xs) (same_Some y x e)
    by_suc (y ∷ xs) (suc k) x e = by_suc xs k x e

pub slice_get-drop : {X : Type 0} (xs : List X) (k : ℕ) (x : X) (ys : List X) → drop k xs ≡ x ∷ ys → slice_get xs k ≡ Some x
slice_get-drop [] zero x ys e = absurd (nil-cons x ys e)
  where
    nil-cons : {X : Type 0} (x : X) (ys : List X) → [] ≡ x ∷ ys → ⊥
    nil-cons x ys e = cc
slice_get-drop [] (suc k) x ys e = cc
slice_get-drop (y ∷ xs) zero x ys e = cc
slice_get-drop (y ∷ xs) (suc k) x ys e = slice_get-drop xs k x ys e

-- ---- filter

pub filter-push_true : {X : Type 0} (p : X → Bool) (xs : List X) (x : X) → p x ≡ true → filter p (xs ++ x ∷ []) ≡ filter p xs ++ x ∷ []
filter-push_true p xs x h = filter-append p xs (x ∷ []) ∙ ap (λ zs. filter p xs ++ zs) (cond-true (p x) (x ∷ []) [] h)

pub filter-push_false : {X : Type 0} (p : X → Bool) (xs : List X) (x : X) → p x ≡ false → filter p (xs ++ x ∷ []) ≡ filter p xs
filter-push_false p xs x h = filter-append p xs (x ∷ []) ∙ (ap (λ zs. filter p xs ++ zs) (cond-false (p x) (x ∷ []) [] h) ∙ append-nil (filter p xs))

pub and-true : (b : Bool) → (b && true) ≡ b
and-true true = refl
and-true false = refl

pub and-false : (b : Bool) → (b && false) ≡ false
and-false true = refl
and-false false = refl

-- one filter after another
pub filter_twice : {X : Type 0} (p q : X → Bool) (xs : List X) → filter p (filter q xs) ≡ filter (λ x. p x && q x) xs
filter_twice p q [] = refl
filter_twice p q (x ∷ xs) = by_case (q x) (filter q xs) (filter (λ y. p y && q y) xs) (filter_twice p q xs)
  where
    by_case : (b : Bool) (ys zs : List _) → filter p ys ≡ zs → filter p (cond b (x ∷ ys) ys) ≡ cond (p x && b) (x ∷ zs) zs
    by_case true ys zs e = rw (and-true (p x)) (ap (λ us. cond (p x) (x ∷ us) us) e)
    by_case false ys zs e = rw (and-false (p x)) e

-- where each item passes, or none
pub filter-all : {X : Type 0} (p : X → Bool) (xs : List X) → All (λ x. p x ≡ true) xs → filter p xs ≡ xs
filter-all p [] all = refl
filter-all p (x ∷ xs) all =
    cond-true (p x) (x ∷ filter p xs) (filter p xs) (All-head (λ y. p y ≡ true) x xs all)
    ∙ ap (λ ys. x ∷ ys) (filter-all p xs (All-tail (λ y. p y ≡ true) x xs all))

pub filter-none : {X : Type 0} (p : X → Bool) (xs : List X) → All (λ x. p x ≡ false) xs → filter p xs ≡ []
filter-none p [] all = refl
filter-none p (x ∷ xs) all =
    cond-false (p x) (x ∷ filter p xs) (filter p xs) (All-head (λ y. p y ≡ false) x xs all) ∙ filter-none p xs (All-tail (λ y. p y ≡ false) x xs all)

-- two tests that agree at each item of the list
pub filter_agree_all : {X : Type 0} (p q : X → Bool) (xs : List X) → All (λ x. p x ≡ q x) xs → filter p xs ≡ filter q xs
filter_agree_all p q [] all = refl
filter_agree_all p q (x ∷ xs) all =
    ap (λ b. cond b (x ∷ filter p xs) (filter p xs)) (All-head (λ y. p y ≡ q y) x xs all)
    ∙ ap (λ ys. cond (q x) (x ∷ ys) ys) (filter_agree_all p q xs (All-tail (λ y. p y ≡ q y) x xs all))

-- each item that passes is kept
pub All-kept : {X : Type 0} (p : X → Bool) (xs : List X) → All (λ x. p x ≡ true → Contains (filter p xs) x) xs
All-kept p [] = All-nil (λ x. p x ≡ true → Contains [] x)
All-kept p (x ∷ xs) =
    All-cons (λ y. p y ≡ true → Contains (filter p (x ∷ xs)) y) x xs
    (λ h. subst (λ ys. Contains ys x) (sym (cond-true (p x) (x ∷ filter p xs) (filter p xs) h)) (zero, omega arith, refl))
    (All-weaker (λ y. p y ≡ true → Contains (filter p xs) y) (λ y. p y ≡ true → Contains (filter p (x ∷ xs)) y)
    (λ y k h. cond_both (p x) (x ∷ filter p xs) (filter p xs) (λ ys. Contains ys y) (λ _. Contains-append_right (x ∷ []) (filter p xs) y (k h))
    (λ _. k h)) xs (All-kept p xs))

pub Contains-filter : {X : Type 0} (p : X → Bool) (xs : List X) (x : X) → Contains xs x → p x ≡ true → Contains (filter p xs) x
Contains-filter p xs x c h = All-contains (λ y. p y ≡ true → Contains (filter p xs) y) xs x (All-kept p xs) c h

-- ---- pushes

pub All-last : {X : Type 0} (P : X → Type 0) (xs : List X) (x : X) → All P (xs ++ x ∷ []) → P x
All-last P xs x all = subst P (get_or_push xs x x (length xs) refl) (all (length xs) x (rw length_push (omega arith)))

pub All-front : {X : Type 0} (P : X → Type 0) (xs ys : List X) → All P (xs ++ ys) → All P xs
All-front P xs ys all k d h = subst P (get_or_append_left xs ys d k h) (all k d (rw length-append (omega arith)))

pub All-back : {X : Type 0} (P : X → Type 0) (xs ys : List X) → All P (xs ++ ys) → All P ys
All-back P [] ys all = all
All-back P (x ∷ xs) ys all = All-back P xs ys (All-tail P x (xs ++ ys) all)

-- one more item or none
pub All-option : {X : Type 0} (P : X → Type 0) (xs : List X) (o : Option X) → All P xs → ((x : X) → o ≡ Some x → P x) → All P (xs ++ cons_option o [])
All-option P xs None all new = rw append-nil all
All-option P xs (Some x) all new = All-push P xs x all (new x refl)

pub AllPairs-option : {X : Type 0} (R : X → X → Type 0) (xs : List X) (o : Option X) → AllPairs R xs → ((x : X) → o ≡ Some x → All (λ y. R y x) xs)
    → AllPairs R (xs ++ cons_option o [])
AllPairs-option R xs None all new = rw append-nil all
AllPairs-option R xs (Some x) all new = all_pairs_push R xs x all (new x refl)

pub AllPairs-last : {X : Type 0} (R : X → X → Type 0) (xs : List X) (x : X) → AllPairs R (xs ++ x ∷ []) → All (λ y. R y x) xs
AllPairs-last R xs x all k d h =
    subst (λ y. R (get_or xs k d) y) (get_or_push xs x d (length xs) refl)
    (subst (λ y. R y (get_or (xs ++ x ∷ []) (length xs) d)) (get_or_append_left xs (x ∷ []) d k h)
    (all k (length xs) d h (rw length_push (omega arith))))

-- the last item is no item before it, where the items differ
pub All-differs : (n : ℕ) (xs : List ℕ) → has n xs ≡ false → All (λ m. m ≢ n) xs
All-differs n xs h =
    All-weaker (λ m. (m == n) ≡ false) (λ m. m ≢ n) (λ m k e. false≢true (sym k ∙ (ap (λ j. j == n) e ∙ eqb_same n))) xs
    (All-from_none (λ m. m == n) xs h)

pub has_none : (n : ℕ) (xs : List ℕ) → All (λ m. m ≢ n) xs → has n xs ≡ false
has_none n xs all = list_any-none (λ m. m == n) xs (All-weaker (λ m. m ≢ n) (λ m. (m == n) ≡ false) (λ m k. eqb_other m n k) xs all)

pub AllPairs-drop : {X : Type 0} (R : X → X → Type 0) (n : ℕ) (xs : List X) → AllPairs R xs → AllPairs R (drop n xs)
AllPairs-drop R n xs all i j d lt within =
    subst (λ x. R x (get_or (drop n xs) j d)) (sym (get_or-drop n xs i d))
    (subst (R (get_or xs (n + i) d)) (sym (get_or-drop n xs j d)) (all (n + i) (n + j) d (omega arith) (omega (arith, within, length-drop n xs))))

-- where each item has Q besides
pub AllPairs-weaker_all : {X : Type 0} (Q : X → Type 0) (R S : X → X → Type 0) (xs : List X) → All Q xs → ((x y : X) → Q x → Q y → R x y → S x y)
    → AllPairs R xs → AllPairs S xs
AllPairs-weaker_all Q R S xs each to all i j d lt within =
    to (get_or xs i d) (get_or xs j d) (each i d (omega arith)) (each j d within) (all i j d lt within)

pub All-weaker_all : {X : Type 0} (Q P S : X → Type 0) (xs : List X) → All Q xs → ((x : X) → Q x → P x → S x) → All P xs → All S xs
All-weaker_all Q P S xs each to all k d lt = to (get_or xs k d) (each k d lt) (all k d lt)

pub All-filter_map : {X Y : Type 0} (P : Y → Type 0) (h : X → Option Y) (xs : List X) → All (λ x. (y : Y) → h x ≡ Some y → P y) xs
    → All P (filter_map h xs)
All-filter_map P h [] all = All-nil P
All-filter_map P h (x ∷ xs) all =
    by_case (h x) (All-head (λ z. (y : _) → h z ≡ Some y → P y) x xs all) (filter_map h xs)
    (All-filter_map P h xs (All-tail (λ z. (y : _) → h z ≡ Some y → P y) x xs all))
  where
    by_case : (o : Option _) → ((y : _) → o ≡ Some y → P y) → (ys : List _) → All P ys → All P (cons_option o ys)
    by_case None new ys rest = rest
    by_case (Some y) new ys rest = All-cons P y ys (new y refl) rest

pub All-unmap : {X Y : Type 0} (P : Y → Type 0) (f : X → Y) (xs : List X) → All P (map f xs) → All (λ x. P (f x)) xs
All-unmap P f [] all = All-nil (λ x. P (f x))
All-unmap P f (x ∷ xs) all = All-cons (λ z. P (f z)) x xs (All-head P (f x) (map f xs) all) (All-unmap P f xs (All-tail P (f x) (map f xs) all))

pub option_length : {X : Type 0} (o : Option X) → length (cons_option o []) ≤ 1
option_length None = omega arith
option_length (Some x) = omega arith

-- where the list may be dropped into, one more item comes last
pub drop_more_items : {X : Type 0} (a b : ℕ) (xs ys : List X) → a ≤ length xs → drop (a + b) (xs ++ ys) ≡ drop b (drop a xs ++ ys)
drop_more_items a b xs ys h = sym (drop-drop b a (xs ++ ys)) ∙ ap (drop b) (drop-append-le a xs ys h)

-- ---- upto and from_first

pub upto-more : (n : ℕ) (xs ys : List ℕ) → has n xs ≡ true → upto n (xs ++ ys) ≡ upto n xs
upto-more n [] ys h = absurd (false≢true h)
upto-more n (m ∷ ms) ys h = ap (λ zs. m ∷ zs) (by_case (m == n) h (upto-more n ms ys))
  where
    by_case : (b : Bool) → (b || has n ms) ≡ true → (has n ms ≡ true → upto n (ms ++ ys) ≡ upto n ms)
        → cond b [] (upto n (ms ++ ys)) ≡ cond b [] (upto n ms)
    by_case true k more = refl
    by_case false k more = more k

pub from_first-agree : (p q : ℕ → Bool) (xs : List ℕ) → ((n : ℕ) → p n ≡ q n) → from_first p xs ≡ from_first q xs
from_first-agree p q [] h = refl
from_first-agree p q (n ∷ ns) h = ap (λ b. cond b (from_first p ns) (n ∷ ns)) (h n) ∙ ap (λ ys. cond (q n) ys (n ∷ ns)) (from_first-agree p q ns h)

pub from_first_length : (p : ℕ → Bool) (xs : List ℕ) → length (from_first p xs) ≤ length xs
from_first_length p [] = omega arith
from_first_length p (n ∷ ns) =
    cond_both (p n) (from_first p ns) (n ∷ ns) (λ ys. length ys ≤ length (n ∷ ns)) (λ _. omega (arith, from_first_length p ns)) (λ _. omega arith)

-- the more pass, the less is left
pub from_first_le : (p q : ℕ → Bool) (xs : List ℕ) → ((n : ℕ) → p n ≡ true → q n ≡ true) → length (from_first q xs) ≤ length (from_first p xs)
from_first_le p q [] h = omega arith
from_first_le p q (n ∷ ns) h =
    cond_both (p n) (from_first p ns) (n ∷ ns) (λ ys. length (from_first q (n ∷ ns)) ≤ length ys)
    (λ passes. subst (λ ys. length ys ≤ length (from_first p ns)) (sym (cond-true (q n) (from_first q ns) (n ∷ ns) (h n passes)))
    (from_first_le p q ns h))
    (λ _. from_first_length q (n ∷ ns))

pub from_first-push : (p : ℕ → Bool) (xs : List ℕ) (n : ℕ) → p n ≡ false → from_first p (xs ++ n ∷ []) ≡ from_first p xs ++ n ∷ []
from_first-push p [] n h = cond-false (p n) [] (n ∷ []) h
from_first-push p (m ∷ ms) n h = by_case (p m) (from_first p (ms ++ n ∷ [])) (from_first p ms) (from_first-push p ms n h)
  where
    by_case : (b : Bool) (ys zs : List ℕ) → ys ≡ zs ++ n ∷ [] → cond b ys (m ∷ (ms ++ n ∷ [])) ≡ cond b zs (m ∷ ms) ++ n ∷ []
    by_case true ys zs e = e
    by_case false ys zs e = refl
