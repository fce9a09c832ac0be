-- Decisions by whether two numbers are the same, and elements of a list by their place.
use Rattle.std.proofs.Common.{◌≡◌, ◌≢◌, ℕ, zero, suc, ◌<◌, ◌≤◌, Bool, true, false, eqb, List, [], ◌∷◌, ◌++◌, length, set, get_or, slice_get, Some, All, refl, sym, subst, arith, eq-eqb, ne_eqb, sum_by}
use Rattle.std.proofs.lemmas.List.Elements.{All-nil, All-cons, All-head, All-tail}
use Rattle.std.proofs.lemmas.Option.{none-some, same_Some}
use Rattle.std.proofs.lemmas.List.Sums.{sum_by-cons}
use mathlib.Core.Option as O
use mathlib.Core.Logic.{dite}
use native.Mathlib.Decide.{ℕ_discrete, dec_le}
use lib.ListN.{get_elem?}

pub by_number : (a b : ℕ) (F : Bool → Type 0) → (a ≡ b → F true) → (a ≢ b → F false) → F (eqb a b)
by_number a b F same other = dite (ℕ_discrete a b) (λ e. subst F (sym (eq-eqb a b e)) (same e)) (λ ne. subst F (sym (ne_eqb a b ne)) (other ne))

module _ {A : Type 0} where
  -- what stands before an addition stays at its place
  pub get_before : (xs ys : List A) (i : ℕ) (x : A) → slice_get xs i ≡ Some x → slice_get (xs ++ ys) i ≡ Some x
  get_before [] ys i x e = absurd (none-some x e)
  get_before (y ∷ xs) ys zero x e = e
  get_before (y ∷ xs) ys (suc i) x e = get_before xs ys i x e

  pub get_last : (xs : List A) (x : A) (i : ℕ) → i ≡ length xs → slice_get (xs ++ x ∷ []) i ≡ Some x
  get_last [] x zero e = refl
  get_last [] x (suc i) e = absurd (omega (arith, e))
  get_last (y ∷ xs) x zero e = absurd (omega (arith, e))
  get_last (y ∷ xs) x (suc i) e = get_last xs x i (omega (arith, e))

  -- what holds of each element holds of the one at a place
  pub All-place : (P : A → Type 0) (xs : List A) (i : ℕ) (x : A) → All P xs → slice_get xs i ≡ Some x → P x
  All-place P [] i x all e = absurd (none-some x e)
  All-place P (y ∷ ys) zero x all e = subst P (same_Some y x e) (All-head P y ys all)
  All-place P (y ∷ ys) (suc i) x all e = All-place P ys i x (All-tail P y ys all) e

  -- a sum that isn't 0 has a term that isn't
  pub some_term : (f : A → ℕ) (xs : List A) → 0 < sum_by f xs → (i : ℕ) × (x : A) × (get_elem? xs i ≡ O.some x) × (0 < f x)
  some_term f [] some = absurd (omega (arith, some))
  some_term f (x ∷ xs) some = by (dec_le 1 (f x)) (λ more. some_term f xs more)
    where
      by : Dec (1 ≤ f x) → (0 < sum_by f xs → (i : ℕ) × (y : A) × (get_elem? xs i ≡ O.some y) × (0 < f y))
          → (i : ℕ) × (y : A) × (get_elem? (x ∷ xs) i ≡ O.some y) × (0 < f y)
      by (yes here) rest = (0, x, refl, omega (arith, here))
      by (no none) rest = let at = rest (omega (arith, some, none, sum_by-cons f x xs)) in (suc at.0, at.1, at.2, at.3)

  -- what holds of the new element and of each other one holds of all
  pub All-replaced : (P : A → Type 0) (xs : List A) (i : ℕ) (new : A) → P new
      → ((j : ℕ) (x : A) → j ≢ i → get_elem? xs j ≡ O.some x → P x) → All P (set xs i new)
  All-replaced P [] i new p others = All-nil P
  All-replaced P (x ∷ xs) zero new p others = All-cons P new xs p (each P xs (λ j y e. others (suc j) y (λ h. absurd (omega (arith, h))) e))
    where
      each : (Q : A → Type 0) (ys : List A) → ((j : ℕ) (y : A) → get_elem? ys j ≡ O.some y → Q y) → All Q ys
      each Q [] h = All-nil Q
      each Q (y ∷ ys) h = All-cons Q y ys (h 0 y refl) (each Q ys (λ j z e. h (suc j) z e))
  All-replaced P (x ∷ xs) (suc i) new p others =
      All-cons P x (set xs i new) (others 0 x (λ h. absurd (omega (arith, h))) refl)
      (All-replaced P xs i new p (λ j y ne e. others (suc j) y (λ h. ne (omega (arith, h))) e))

  -- two facts of each element together
  pub All-both : (P Q R : A → Type 0) → ((x : A) → P x → Q x → R x) → (xs : List A) → All P xs → All Q xs → All R xs
  All-both P Q R f xs p q k d lt = f (get_or xs k d) (p k d lt) (q k d lt)
