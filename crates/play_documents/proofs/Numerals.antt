-- The numbers of a script's words.
use Rattle.std.proofs.Common.{◌≡◌, ℕ, ◌^◌, ◌<◌, ◌≤◌, true, false, not, ◌&&◌, ◌==◌, nat_le, List, [], ◌∷◌, length, get_or, None, Result, refl, ap, arith}
use Rattle.std.specs.List.{list_all}
use Rattle.std.specs.Str.{all_ascii_digits}
use Rattle.std.specs.Char.{is_ascii_digit}
use Rattle.std.specs.Str.Parse.{ParsesUnsigned, digits_value}
use Rattle.std.specs.Result.{OkIff}
use Rattle.std.proofs.lemmas.Bool.{and_parts}
use Rattle.std.proofs.lemmas.Bool.Decides.{nat_tests}
use Rattle.std.proofs.lemmas.Str.Parse.{IsNumeralModel, numerals_by_value, tells_all_ascii_digits, parse_digits}
use Rattle.play_documents.specs.Words.{is_numeral, number}

-- the test of each digit
pub digits-list_all : (ds : List ℕ) → list_all is_ascii_digit ds ≡ all_ascii_digits ds
digits-list_all [] = refl
digits-list_all (c ∷ cs) = ap (λ b. is_ascii_digit c && b) (digits-list_all cs)

-- two digits or more
pub is_numeral-long : (ds : List ℕ) → 2 ≤ length ds → is_numeral ds ≡ (not (get_or ds 0 0 == 48) && all_ascii_digits ds)
is_numeral-long [] h = absurd (omega arith)
is_numeral-long (c ∷ []) h = absurd (omega arith)
is_numeral-long (c ∷ d ∷ ds) h = refl

-- a numeral has digits alone
pub numeral-digits : (ds : List ℕ) → is_numeral ds ≡ true → (all_ascii_digits ds ≡ true) × (0 < length ds)
numeral-digits [] h = absurd cc
numeral-digits (c ∷ []) h = (rw h refl, omega arith)
numeral-digits (c ∷ d ∷ ds) h = ((and_parts (not (c == 48)) (all_ascii_digits (c ∷ d ∷ ds)) h).1, omega arith)

own : IsNumeralModel (λ ds. all_ascii_digits ds ≡ true) (digits_value 10)
own = numerals_by_value _ tells_all_ascii_digits

-- what `parse` gives of a numeral
pub parsed-numeral : {E : Type 0} (bs : List ℕ) (r : Result ℕ E) → ParsesUnsigned 64 10 bs r → is_numeral bs ≡ true
    → OkIff r ((0 < length bs) × (digits_value 10 bs < 2 ^ 64)) (digits_value 10 bs)
parsed-numeral bs r h is = parse_digits own 64 bs r h (numeral-digits bs is).0

-- a numeral that `parse` refuses is above the most
above : (n most : ℕ) → (n ≤ most → ⊥) → nat_le n most ≡ false
above n most no_more = grind (arith, nat_tests)

pub number-refused : (most : ℕ) (bs : List ℕ) → is_numeral bs ≡ true → ¬ ((0 < length bs) × (digits_value 10 bs < 2 ^ 64)) → most < 2 ^ 64 → number most bs ≡ None
unfolding number
number-refused most bs is refused fits =
    let over : nat_le (digits_value 10 bs) most ≡ false = above (digits_value 10 bs) most (λ le. refused ((numeral-digits bs is).1, omega arith)) in
    rw (is, over) refl
