-- Lists of which one item is written or the first leaves.
use Rattle.std.proofs.Common.{◌≡◌, ◌≢◌, ℕ, zero, suc, ◌<◌, List, [], ◌∷◌, length, drop, set, get_or, AllPairs, slice_get, ◌⊎◌, inl, inr, refl, sym, ap, ◌∙◌, subst, arith}
use Rattle.std.proofs.lemmas.Bool.{cases_eq}
use Rattle.std.proofs.lemmas.List.{length-set, get_or-set_same, get_or-set_other, get_or_default}

pub slice_get-set_other : {X : Type 0} (xs : List X) (i j : ℕ) (x : X) → j ≢ i → slice_get (set xs i x) j ≡ slice_get xs j
slice_get-set_other [] i j x h = refl
slice_get-set_other (y ∷ xs) zero zero x h = absurd (h refl)
slice_get-set_other (y ∷ xs) zero (suc j) x h = refl
slice_get-set_other (y ∷ xs) (suc i) zero x h = refl
slice_get-set_other (y ∷ xs) (suc i) (suc j) x h = slice_get-set_other xs i j x (λ e. h (ap suc e))

-- the items behind the first
pub slice_get-drop_one : {X : Type 0} (xs : List X) (k : ℕ) → slice_get (drop 1 xs) k ≡ slice_get xs (suc k)
slice_get-drop_one [] k = refl
slice_get-drop_one (x ∷ xs) k = refl

-- a relation that depends on f alone holds as before, where f of the written item is as before
pub AllPairs-set_like : {X Y : Type 0} (f : X → Y) (R : Y → Y → Type 0) (xs : List X) (i : ℕ) (x d : X) → i < length xs
    → f x ≡ f (get_or xs i d) → AllPairs (λ a b. R (f a) (f b)) xs → AllPairs (λ a b. R (f a) (f b)) (set xs i x)
AllPairs-set_like f R xs i x d h same all j k e lt within =
    subst (λ a. R a (f (get_or (set xs i x) k e))) (sym (at j (omega (arith, lt, long))))
    (subst (λ b. R (f (get_or xs j d)) b) (sym (at k long)) (all j k d lt long))
  where
    long : k < length xs
    long = subst (λ n. k < n) (length-set xs i x) within

    at : (m : ℕ) → m < length xs → f (get_or (set xs i x) m e) ≡ f (get_or xs m d)
    at m here = by_case (cases_eq m i)
      where
        by_case : (m ≡ i) ⊎ (m ≢ i) → f (get_or (set xs i x) m e) ≡ f (get_or xs m d)
        by_case (inl is) =
            ap (λ n. f (get_or (set xs i x) n e)) is ∙ (ap f (get_or-set_same xs i x e h) ∙ (same ∙ ap (λ n. f (get_or xs n d)) (sym is)))
        by_case (inr other) = ap f (get_or-set_other xs i m x e other) ∙ ap f (get_or_default xs m e d here)

-- the later write of one place is the one that counts
pub set-set : {X : Type 0} (xs : List X) (i : ℕ) (x y : X) → set (set xs i x) i y ≡ set xs i y
set-set [] i x y = refl
set-set (z ∷ xs) zero x y = refl
set-set (z ∷ xs) (suc i) x y = ap (λ ys. z ∷ ys) (set-set xs i x y)
