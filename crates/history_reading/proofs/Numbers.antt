-- Numbers at the head of a text.
use Rattle.std.proofs.Common.{◌≡◌, ℕ, ◌+◌, ◌/◌, ◌%◌, ◌^◌, ◌<◌, ◌≤◌, Bool, true, false, not, ◌&&◌, ◌==◌, nat_le, List, [], ◌∷◌, ◌++◌, length, get_or, take, drop, Option, Some, None, refl, sym, ap, subst, ◌∙◌, arith, length-append, ⊎_elim, if◌then◌else◌}
use Rattle.std.specs.Prelude.{decimal}
use Rattle.std.specs.Char.{is_ascii_digit}
use Rattle.std.specs.Str.{all_ascii_digits, IsAscii, IsUtf8}
use Rattle.std.specs.Str.Parse.{digits_value}
use Rattle.std.proofs.lemmas.Bool.{and_parts, le-leb, ne_eqb, cases_lt}
use Rattle.std.proofs.lemmas.Bool.Decides.{nat_tests}
use Rattle.std.proofs.lemmas.Fmt.{decimal_digit, decimal_step, decimal_nonempty, first_decimal, digits_decimal, digits_value-decimal, decimal-digits_value}
use Rattle.std.proofs.lemmas.List.{take_more, take-append-drop}
use Rattle.std.proofs.lemmas.Str.{IsUtf8-from_ascii}
use Rattle.std.proofs.lemmas.Str.Ascii.{IsAscii-nil, IsAscii-cons}
use Rattle.std.proofs.lemmas.Str.Parse.{IsNumeralModel, numerals_by_value, tells_all_ascii_digits}
use Rattle.play_documents.specs.Words.{is_numeral, number}
use Rattle.play_documents.proofs.Numerals.{is_numeral-long, numeral-digits}
use Rattle.history_reading.specs.Texts.{IsBehind}

heads : (x y : ℕ) (xs ys : List ℕ) → x ∷ xs ≡ y ∷ ys → x ≡ y
heads x y xs ys e = cc

tails : (x y : ℕ) (xs ys : List ℕ) → x ∷ xs ≡ y ∷ ys → xs ≡ ys
tails x y xs ys e = cc

-- a digit where a number ends
no_digit : (d : ℕ) (ds text : List ℕ) → text ≡ d ∷ ds → IsBehind text → is_ascii_digit d ≡ true → ⊥
no_digit d ds text e behind digit = let not_one : is_ascii_digit d ≡ false = subst IsBehind e behind in absurd cc

-- two runs of digits that begin one text, and end there, are one
pub digits-unique : (a b r t : List ℕ) → all_ascii_digits a ≡ true → all_ascii_digits b ≡ true → IsBehind r → IsBehind t → a ++ r ≡ b ++ t → (a ≡ b) × (r ≡ t)
digits-unique [] [] r t ha hb hr ht e = (refl, e)
digits-unique [] (d ∷ b) r t ha hb hr ht e = absurd (no_digit d (b ++ t) r e hr (and_parts (is_ascii_digit d) (all_ascii_digits b) hb).0)
digits-unique (c ∷ a) [] r t ha hb hr ht e = absurd (no_digit c (a ++ r) t (sym e) ht (and_parts (is_ascii_digit c) (all_ascii_digits a) ha).0)
digits-unique (c ∷ a) (d ∷ b) r t ha hb hr ht e =
    let rest = digits-unique a b r t (and_parts (is_ascii_digit c) (all_ascii_digits a) ha).1 (and_parts (is_ascii_digit d) (all_ascii_digits b) hb).1 hr ht (tails c d (a ++ r) (b ++ t) e) in
    let one : c ≡ d = heads c d (a ++ r) (b ++ t) e in
    let same : a ≡ b = rest.0 in
    (rw (one, same) refl, rest.1)

digits-push : (ds : List ℕ) (d : ℕ) → all_ascii_digits ds ≡ true → is_ascii_digit d ≡ true → all_ascii_digits (ds ++ d ∷ []) ≡ true
digits-push [] d h one = rw one refl
digits-push (c ∷ cs) d h one = let parts = and_parts (is_ascii_digit c) (all_ascii_digits cs) h in rw (parts.0, digits-push cs d parts.1 one) refl

pub digits-more : (text : List ℕ) (i : ℕ) → i < length text → all_ascii_digits (take i text) ≡ true → is_ascii_digit (get_or text i 0) ≡ true → all_ascii_digits (take (i + 1) text) ≡ true
digits-more text i there h one = rw (take_more text i 0 there) (digits-push (take i text) (get_or text i 0) h one)

digit-small : (c : ℕ) → is_ascii_digit c ≡ true → c < 128
digit-small c h = let parts = and_parts (nat_le 48 c) (nat_le c 57) h in grind (arith, nat_tests)

digits-ascii : (ds : List ℕ) → all_ascii_digits ds ≡ true → IsAscii ds
digits-ascii [] h = IsAscii-nil
digits-ascii (c ∷ cs) h = let parts = and_parts (is_ascii_digit c) (all_ascii_digits cs) h in IsAscii-cons c cs (digit-small c parts.0) (digits-ascii cs parts.1)

pub digits-utf8 : (ds : List ℕ) → all_ascii_digits ds ≡ true → IsUtf8 ds
digits-utf8 ds h = IsUtf8-from_ascii ds (digits-ascii ds h)

-- ---- decimal digits, written and read

own : IsNumeralModel (λ ds. all_ascii_digits ds ≡ true) (digits_value 10)
own = numerals_by_value _ tells_all_ascii_digits

pub decimal-digits : (n : ℕ) → n < 2 ^ 64 → all_ascii_digits (decimal n) ≡ true
decimal-digits n h = digits_decimal own n h

one_digit : (n : ℕ) → n < 10 → is_ascii_digit (48 + n) ≡ true
one_digit n h = rw (le-leb 48 (48 + n) (omega arith), le-leb (48 + n) 57 (omega arith)) refl

-- no zero leads where there are several digits
several : (ds : List ℕ) → 2 ≤ length ds → 48 < get_or ds 0 0 → all_ascii_digits ds ≡ true → is_numeral ds ≡ true
several ds long first all = is_numeral-long ds long ∙ rw (ne_eqb (get_or ds 0 0) 48 (λ e. omega (arith, first, e)), all) refl

two_digits : (n : ℕ) → 10 ≤ n → n < 2 ^ 64 → 2 ≤ length (decimal n)
two_digits n many h =
    let front : 0 < length (decimal (n / 10)) = decimal_nonempty (n / 10) (omega arith) in
    rw (decimal_step n many h) (omega (arith, front, length-append (decimal (n / 10)) ((48 + n % 10) ∷ [])))

is_numeral-decimal : (n : ℕ) → n < 2 ^ 64 → is_numeral (decimal n) ≡ true
is_numeral-decimal n h =
    ⊎_elim (λ (few : n < 10). rw (decimal_digit n few) (one_digit n few))
    (λ (many : 10 ≤ n). several (decimal n) (two_digits n many h) (first_decimal n (omega arith) h) (digits_decimal own n h))
    (cases_lt n 10)

-- where a text that a number begins is cut at its last digit
pub split-decimal : (text : List ℕ) (i n : ℕ) (more : List ℕ) → n < 2 ^ 64 → all_ascii_digits (take i text) ≡ true → IsBehind (drop i text) → IsBehind more → text ≡ decimal n ++ more
    → (take i text ≡ decimal n) × (drop i text ≡ more)
split-decimal text i n more small digits end behind e = digits-unique (take i text) (decimal n) (drop i text) more digits (decimal-digits n small) end behind (take-append-drop i text ∙ e)

pub number-decimal : (most n : ℕ) → n ≤ most → most < 2 ^ 64 → number most (decimal n) ≡ Some n
unfolding number
number-decimal most n small h =
    let value : digits_value 10 (decimal n) ≡ n = digits_value-decimal own n (omega arith) in
    rw (is_numeral-decimal n (omega arith), value, le-leb n most small) refl

-- a zero that leads stands alone
lone_zero : (word : List ℕ) → is_numeral word ≡ true → get_or word 0 0 ≡ 48 → length word ≡ 1
lone_zero [] h e = absurd cc
lone_zero (c ∷ []) h e = refl
lone_zero (c ∷ d ∷ ds) h e =
    let first : not (c == 48) ≡ true = (and_parts (not (c == 48)) (all_ascii_digits (c ∷ d ∷ ds)) h).0 in
    let none : not (48 == 48) ≡ true = subst (λ x. not (x == 48) ≡ true) e first in absurd cc

both_hold : (a b : Bool) (v n : ℕ) → ◌≡◌ {A = Option ℕ} (if a && b then Some v else None) (Some n) → (a ≡ true) × (b ≡ true) × (v ≡ n)
both_hold true true v n e = (refl, refl, cc)
both_hold true false v n e = absurd cc
both_hold false b v n e = absurd cc

under : (v most : ℕ) → nat_le v most ≡ true → v ≤ most
under v most h = grind (arith, nat_tests)

-- what a word is read as, it writes
pub number-written : (most n : ℕ) (word : List ℕ) → most < 2 ^ 64 → number most word ≡ Some n → word ≡ decimal n
unfolding number
number-written most n word h e =
    let parts = both_hold (is_numeral word) (nat_le (digits_value 10 word) most) (digits_value 10 word) n e in
    let digits = numeral-digits word parts.0 in
    let small : digits_value 10 word ≤ most = under (digits_value 10 word) most parts.1 in
    sym (decimal-digits_value own word digits.0 digits.1 (lone_zero word parts.0) (omega (arith, small, h))) ∙ ap decimal parts.2
