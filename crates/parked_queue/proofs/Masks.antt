-- What is left of a division by a power of two is what a mask leaves.
use Rattle.std.proofs.Common.{◌≡◌, ℕ, ◌-◌, ◌%◌, ◌^◌, ◌<◌, ◌≤◌, Bool, true, false, not, ◌||◌, ◌==◌, List, [], ◌∷◌, get_or, All, refl, sym, ap, ◌∙◌, subst, arith, eq-eqb, ⊎_elim}
use Rattle.std.specs.Prelude.{bit_and}
use Rattle.std.specs.List.{list_any, range_with_len}
use Rattle.std.proofs.lemmas.Bool.{cases_Bool, cond-true, cond-false, eqb-true}
use Rattle.std.proofs.lemmas.List.Elements.{All-cons, All-nil}
use Rattle.std.proofs.lemmas.List.FromFn.{get_or-range_with_len, length-range_with_len}
use Rattle.std.proofs.lemmas.Nat.{and_mask}
use Rattle.lists.proofs.Lists.{All-from_none, All-has}
use Rattle.lists.specs.Lists.{has}
use Rattle.parked_queue.specs.Marks.{mask_of}

abbrev powers : List ℕ
powers = 1 ∷ 2 ∷ 4 ∷ 8 ∷ 16 ∷ 32 ∷ 64 ∷ []

abbrev IsPower : ℕ → Type 0
IsPower n = (k : ℕ) × (n ≡ 2 ^ k)

all_powers : All IsPower powers
all_powers =
    All-cons IsPower 1 (2 ∷ 4 ∷ 8 ∷ 16 ∷ 32 ∷ 64 ∷ []) (0, refl)
    (All-cons IsPower 2 (4 ∷ 8 ∷ 16 ∷ 32 ∷ 64 ∷ []) (1, refl)
    (All-cons IsPower 4 (8 ∷ 16 ∷ 32 ∷ 64 ∷ []) (2, refl)
    (All-cons IsPower 8 (16 ∷ 32 ∷ 64 ∷ []) (3, refl)
    (All-cons IsPower 16 (32 ∷ 64 ∷ []) (4, refl)
    (All-cons IsPower 32 (64 ∷ []) (5, refl)
    (All-cons IsPower 64 [] (6, refl) (All-nil IsPower)))))))

-- a number that has no bit in common with the one below it, and is no power
abbrev is_exception : ℕ → Bool
is_exception n = not (not (bit_and n (n - 1) == 0) || has n powers)

no_exception : list_any is_exception (range_with_len 1 64) ≡ false
no_exception = refl

powered : (n : ℕ) → 0 < n → n ≤ 64 → bit_and n (n - 1) ≡ 0 → IsPower n
powered n some few none =
    let at : get_or (range_with_len 1 64) (n - 1) 0 ≡ n = get_or-range_with_len 1 64 (n - 1) 0 (omega arith) ∙ omega arith in
    let odd : is_exception n ≡ false = subst (λ m. is_exception m ≡ false) at (All-from_none is_exception (range_with_len 1 64) no_exception (n - 1) 0 (omega (arith, length-range_with_len 1 64))) in
    All-has IsPower n powers all_powers (passes (bit_and n (n - 1) == 0) (has n powers) (eq-eqb (bit_and n (n - 1)) 0 none) odd)
  where
    passes : (a b : Bool) → a ≡ true → not (not a || b) ≡ false → b ≡ true
    passes true true e f = refl
    passes true false e f = sym f
    passes false b e f = cc

mask_is : (n f : ℕ) → 0 < n → n ≤ 64 → bit_and n (n - 1) ≡ 0 → bit_and f (n - 1) ≡ f % n
mask_is n f some few none =
    let power = powered n some few none in
    ap (λ m. bit_and f (m - 1)) power.1 ∙ (and_mask f power.0 ∙ ap (λ m. f % m) (sym power.1))

-- the mask that is kept, where it is one
pub masked : (n m f : ℕ) → 0 < n → n ≤ 64 → m ≡ mask_of n → m < 64 → bit_and f m ≡ f % n
masked n m f some few is less =
    ⊎_elim
    (λ power. ap (bit_and f) (is ∙ cond-true (bit_and n (n - 1) == 0) (n - 1) 64 power) ∙ mask_is n f some few (eqb-true (bit_and n (n - 1)) 0 power))
    (λ other. let e = is ∙ cond-false (bit_and n (n - 1) == 0) (n - 1) 64 other in absurd (omega arith))
    (cases_Bool (bit_and n (n - 1) == 0))
