-- Places that have an item or none.
use Rattle.std.proofs.Common.{◌≡◌, ℕ, zero, suc, ◌<◌, List, [], ◌∷◌, length, map, set, get_or, Some, None, true, false, is_some, refl, sym, ap, ◌∙◌, ◌⊎◌, inl, inr}
use Rattle.std.specs.Prelude.{Option, slice_get}
use Rattle.std.specs.Option.{option_map}
use Rattle.std.proofs.lemmas.Bool.{false≢true}
use Rattle.std.proofs.lemmas.Option.{same_Some, slice_get-get_or, slice_get-map}

-- an item is there after a write only where it was written, or was there before
pub read_written : {X : Type 0} (xs : List X) (i j : ℕ) (v y : X) → slice_get (set xs i v) j ≡ Some y → ((i ≡ j) × (v ≡ y)) ⊎ (slice_get xs j ≡ Some y)
read_written [] i j v y h = inr h
read_written (x ∷ xs) zero zero v y h = inl (refl, same_Some v y h)
read_written (x ∷ xs) zero (suc j) v y h = inr h
read_written (x ∷ xs) (suc i) zero v y h = inr h
read_written (x ∷ xs) (suc i) (suc j) v y h =
    elim (read_written xs i j v y h) [ inl p ↦ inl (ap suc p.0, p.1) | inr there ↦ inr there ]

-- and it is there, where it was written over another
pub read_here : {X : Type 0} (xs : List X) (i : ℕ) (v y : X) → slice_get xs i ≡ Some y → slice_get (set xs i v) i ≡ Some v
read_here [] i v y h = cc
read_here (x ∷ xs) zero v y h = refl
read_here (x ∷ xs) (suc i) v y h = read_here xs i v y h

some_twice : {X : Type 0} (o : Option X) (x : X) → option_map Some o ≡ Some (Some x) → o ≡ Some x
some_twice None x h = cc
some_twice (Some y) x h = same_Some (Some y) (Some x) h

-- where all homes have an item
module _ {X : Type 0} (xs : List X) where
  pub there_in_all : (i : ℕ) (x : X) → slice_get (map Some xs) i ≡ Some (Some x) → slice_get xs i ≡ Some x
  there_in_all i x h = some_twice (slice_get xs i) x (sym (slice_get-map Some xs i) ∙ h)

  pub in_home : (i : ℕ) (x : X) → slice_get xs i ≡ Some x → slice_get (map Some xs) i ≡ Some (Some x)
  in_home i x h = slice_get-map Some xs i ∙ ap (option_map Some) h

  pub in_all : (i : ℕ) (d : X) → i < length xs → slice_get (map Some xs) i ≡ Some (Some (get_or xs i d))
  in_all i d low = in_home i (get_or xs i d) (slice_get-get_or xs i d low)

-- what a test of a home says
pub some_there : {X : Type 0} (o : Option X) → is_some o ≡ true → (x : X) × (o ≡ Some x)
some_there None h = absurd (false≢true h)
some_there (Some x) h = (x, refl)

pub none_there : {X : Type 0} (o : Option X) → is_some o ≡ false → o ≡ None
none_there None h = refl
none_there (Some x) h = absurd (false≢true (sym h))

-- by the cases of what may be there
pub option_cases : {X : Type 0} (P : Option X → Type 0) (o : Option X) → (o ≡ None → P None) → ((x : X) → o ≡ Some x → P (Some x)) → P o
option_cases P None none some = none refl
option_cases P (Some x) none some = some x refl
