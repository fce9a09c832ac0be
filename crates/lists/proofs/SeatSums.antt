-- What a sum over a list is, and what it becomes as the list changes. A place of a list is read by `get_elem?`, as a table's views are.
use Rattle.std.proofs.Common.{◌≡◌, ℕ, zero, suc, ◌+◌, ◌<◌, ◌≤◌, ◌≢◌, List, [], ◌∷◌, ◌++◌, length, set, get_or, sym, ap, subst, refl, ◌∙◌, arith, sum_by, All}
use Rattle.std.proofs.lemmas.List.Sums.{sum_by-cons, sum_by-append}
use mathlib.Core.Option.{some, some-injective, some-ne-none}
use lib.ListN.{get_elem?}

module _ {A : Type 0} where
  -- a place that has an element is within the list
  pub place_below : (l : List A) (i : ℕ) (x : A) → get_elem? l i ≡ some x → i < length l
  place_below [] i x e = absurd (some-ne-none x (sym e))
  place_below (y ∷ ys) zero x e = omega arith
  place_below (y ∷ ys) (suc i) x e = omega (arith, place_below ys i x e)

  -- what is read at a place is its element
  read_at : (l : List A) (i : ℕ) (x d : A) → get_elem? l i ≡ some x → get_or l i d ≡ x
  read_at [] i x d e = absurd (some-ne-none x (sym e))
  read_at (y ∷ ys) zero x d e = some-injective y x e
  read_at (y ∷ ys) (suc i) x d e = read_at ys i x d e

  -- what holds of each element holds of the one at a place
  pub All-at : (P : A → Type 0) (l : List A) (i : ℕ) (x : A) → All P l → get_elem? l i ≡ some x → P x
  All-at P l i x all e = subst P (read_at l i x x e) (all i x (place_below l i x e))

  -- a change at one place leaves the others
  pub other_place : (l : List A) (i j : ℕ) (x : A) → j ≢ i → get_elem? (set l i x) j ≡ get_elem? l j
  other_place [] i j x ne = refl
  other_place (y ∷ ys) zero zero x ne = absurd (ne refl)
  other_place (y ∷ ys) zero (suc j) x ne = refl
  other_place (y ∷ ys) (suc i) zero x ne = refl
  other_place (y ∷ ys) (suc i) (suc j) x ne = other_place ys i j x (λ e. ne (ap suc e))

  -- sums of functions that agree
  pub sum_by-same : (f g : A → ℕ) → ((x : A) → f x ≡ g x) → (l : List A) → sum_by f l ≡ sum_by g l
  sum_by-same f g same [] = refl
  sum_by-same f g same (x ∷ xs) = omega (arith, same x, sum_by-same f g same xs, sum_by-cons f x xs, sum_by-cons g x xs)

  -- where g is 0 at each element that the list has, so is its sum
  sum_by-none : (g : A → ℕ) (l : List A) → ((i : ℕ) (x : A) → get_elem? l i ≡ some x → g x ≡ 0) → sum_by g l ≡ 0
  sum_by-none g [] none = refl
  sum_by-none g (x ∷ xs) none = omega (arith, none 0 x refl, sum_by-none g xs (λ i y e. none (suc i) y e), sum_by-cons g x xs)

  module _ (f : A → ℕ) where
    -- one element changes, as by a step
    pub sum_by-changed : (l : List A) (i : ℕ) (old new : A) → get_elem? l i ≡ some old → sum_by f (set l i new) + f old ≡ sum_by f l + f new
    sum_by-changed [] i old new e = absurd (some-ne-none old (sym e))
    sum_by-changed (x ∷ xs) zero old new e = omega (arith, ap f (some-injective x old e), sum_by-cons f x xs, sum_by-cons f new xs)
    sum_by-changed (x ∷ xs) (suc i) old new e = omega (arith, sum_by-changed xs i old new e, sum_by-cons f x xs, sum_by-cons f x (set xs i new))

    -- one element changes and another comes, as by a split
    pub sum_by-split : (l : List A) (i : ℕ) (old left right : A) → get_elem? l i ≡ some old
        → sum_by f (set l i left ++ right ∷ []) + f old ≡ sum_by f l + f left + f right
    sum_by-split l i old left right e = omega (arith, sum_by-append f (set l i left) (right ∷ []), sum_by-changed l i old left e)

    -- two elements change, as by a join; the second is read after the first has changed
    pub sum_by-joined : (l : List A) (i j : ℕ) (v w both spent : A) → get_elem? l i ≡ some v → get_elem? (set l i both) j ≡ some w
        → sum_by f (set (set l i both) j spent) + f v + f w ≡ sum_by f l + f both + f spent
    sum_by-joined l i j v w both spent e d = omega (arith, sum_by-changed l i v both e, sum_by-changed (set l i both) j w spent d)

    -- an element's term is within the sum, and so are two elements' terms together
    pub term_le : (l : List A) (i : ℕ) (x : A) → get_elem? l i ≡ some x → f x ≤ sum_by f l
    term_le [] i x e = absurd (some-ne-none x (sym e))
    term_le (y ∷ ys) zero x e = omega (arith, ap f (some-injective y x e), sum_by-cons f y ys)
    term_le (y ∷ ys) (suc i) x e = omega (arith, term_le ys i x e, sum_by-cons f y ys)

    pub terms_le : (l : List A) (i j : ℕ) (x y : A) → j ≢ i → get_elem? l i ≡ some x → get_elem? l j ≡ some y → f x + f y ≤ sum_by f l
    terms_le [] i j x y ne e d = absurd (some-ne-none x (sym e))
    terms_le (z ∷ zs) zero zero x y ne e d = absurd (ne refl)
    terms_le (z ∷ zs) zero (suc j) x y ne e d = omega (arith, ap f (some-injective z x e), term_le zs j y d, sum_by-cons f z zs)
    terms_le (z ∷ zs) (suc i) zero x y ne e d = omega (arith, ap f (some-injective z y d), term_le zs i x e, sum_by-cons f z zs)
    terms_le (z ∷ zs) (suc i) (suc j) x y ne e d = omega (arith, terms_le zs i j x y (λ h. ne (ap suc h)) e d, sum_by-cons f z zs)

    -- One element has the whole sum of f, and g is 0 wherever f is 0: then it has the whole sum of g.
    alone : (g : A → ℕ) (l : List A) (i : ℕ) (x : A) → ((j : ℕ) (y : A) → get_elem? l j ≡ some y → f y ≡ 0 → g y ≡ 0)
        → get_elem? l i ≡ some x → sum_by f l ≡ f x → sum_by g l ≡ g x
    alone g [] i x none e whole = absurd (some-ne-none x (sym e))
    alone g (y ∷ ys) zero x none e whole =
        let same : y ≡ x = some-injective y x e in
        let rest : sum_by f ys ≡ 0 = omega (arith, ap f same, sum_by-cons f y ys) in
        let none' = sum_by-none g ys (λ j z d. none (suc j) z d (omega (arith, term_le ys j z d))) in
        omega (arith, ap g same, none', sum_by-cons g y ys)
    alone g (y ∷ ys) (suc i) x none e whole =
        let here : f y ≡ 0 = omega (arith, term_le ys i x e, sum_by-cons f y ys) in
        let rest : sum_by f ys ≡ f x = omega (arith, sum_by-cons f y ys) in
        omega (arith, none 0 y refl here, alone g ys i x (λ j z d. none (suc j) z d) e rest, sum_by-cons g y ys)

  -- One seat has all the parts that there are, and a seat without parts is spent: then it has all of what a spent seat has nothing of.
  pub all_of : (parts : A → ℕ) (IsSpent : A → Type 0) (all : ℕ) (l : List A) (i : ℕ) (x : A)
      → All (λ y. parts y ≡ 0 → IsSpent y) l → sum_by parts l ≡ all → get_elem? l i ≡ some x → parts x ≡ all
      → (f : A → ℕ) → ((y : A) → IsSpent y → f y ≡ 0) → sum_by f l ≡ f x
  all_of parts IsSpent all l i x idle sum here whole f nothing =
      alone parts f l i x (λ j y e none. nothing y (All-at (λ z. parts z ≡ 0 → IsSpent z) l j y idle e none)) here (sum ∙ sym whole)
