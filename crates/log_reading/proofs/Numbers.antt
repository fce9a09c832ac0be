-- Numbers as words, and read again.
use Rattle.std.proofs.Common.{◌≡◌, ◌≢◌, ℕ, zero, suc, ◌+◌, ◌-◌, ◌*◌, ◌/◌, ◌%◌, ◌^◌, ◌<◌, ◌≤◌, Bool, true, false, not, ◌&&◌, ◌==◌, nat_le, nat_lt, cond, eqb, List, [], ◌∷◌, ◌++◌, length, get_or, Option, Some, None, Result, Ok, refl, sym, ap, subst, ◌∙◌, arith, append-nil, length-append, ⊎_elim}
use Rattle.std.specs.List.{list_all}
use Rattle.std.specs.Prelude.{decimal, replicate}
use Rattle.std.specs.Char.{is_ascii_digit, digit_value}
use Rattle.std.specs.Fmt.{digits, digits_onto, digit_glyph, char_count, padded_integral, format_spec}
use Rattle.std.specs.Str.{all_ascii_digits}
use Rattle.std.specs.Str.Parse.{ParsesUnsigned, IsNumeral, AllDigits, digits_value, digits_value_after, without_leading_plus}
use Rattle.std.proofs.Math.Nat.{mod-lt}
use Rattle.std.proofs.lemmas.Bool.{lt-ltb, le-leb, ne_eqb, cases_lt}
use Rattle.std.proofs.lemmas.Fmt.{decimal_digit, decimal_step, decimal_nonempty, first_decimal, digits_decimal, digits_value-decimal, digits_is_IsNumeral}
use Rattle.std.proofs.lemmas.Result.{Ok-from_Ok_iff}
use Rattle.std.proofs.lemmas.Str.Parse.{IsNumeralModel, numerals_by_value, tells_all_ascii_digits, without_leading_plus_none}
use Rattle.evt_types.specs.Word.{Fits, op_code, kind_code, word_of}
use Rattle.evt_types.specs.declared.event.Event.{Event}
use Rattle.evt_types.specs.declared.event.Kind.{Kind}
use Rattle.evt_types.specs.declared.event.Kind.TheVariants.{Ordered, Atomic, Parallel}
use Rattle.evt_types.specs.declared.event.Op.{Op}
use Rattle.evt_types.specs.declared.event.Op.TheVariants.{New, Forward, Release, ForwardMore}
use Rattle.play_documents.specs.Words.{is_numeral, number}
use Rattle.play_documents.proofs.Numerals.{is_numeral-long}
use Rattle.play_text.specs.Text.{hex_word}

-- ---- bytes that are no white space

abbrev pub is_plain : ℕ → Bool
is_plain c = nat_lt 32 c && nat_lt c 128

abbrev pub IsPlain : List ℕ → Type 0
IsPlain word = list_all is_plain word ≡ true

plain-between : (c : ℕ) → 32 < c → c < 128 → is_plain c ≡ true
plain-between c low high = rw (lt-ltb 32 c low, lt-ltb c 128 high) refl

glyph-plain : (d : ℕ) → d < 16 → is_plain (digit_glyph false d) ≡ true
glyph-plain d h = elim (nat_lt d 10) as (λ b. is_plain (cond b (48 + d) (87 + d)) ≡ true) [ true ↦ plain-between (48 + d) (omega arith) (omega arith) | false ↦ plain-between (87 + d) (omega arith) (omega arith) ]

-- whatever the number
digits_onto-plain : (k base n : ℕ) (acc : List ℕ) → 0 < base → base ≤ 16 → IsPlain acc → IsPlain (digits_onto k base false n acc)
digits_onto-plain zero base n acc some few h = h
digits_onto-plain (suc k) base n acc some few h =
    let digit : n % base < base = mod-lt n some in
    let g : is_plain (digit_glyph false (n % base)) ≡ true = glyph-plain (n % base) (omega (arith, digit)) in
    let more : IsPlain (digit_glyph false (n % base) ∷ acc) = rw (g, h) refl in
    elim (n / base == 0) as (λ b. IsPlain (cond b (digit_glyph false (n % base) ∷ acc) (digits_onto k base false (n / base) (digit_glyph false (n % base) ∷ acc)))) [ true ↦ more | false ↦ digits_onto-plain k base (n / base) (digit_glyph false (n % base) ∷ acc) some few more ]

pub decimal-plain : (n : ℕ) → IsPlain (decimal n)
unfolding digits
decimal-plain n = digits_onto-plain 64 10 n [] (omega arith) (omega arith) refl

zeros-plain : (k : ℕ) (ds : List ℕ) → IsPlain ds → IsPlain (replicate k 48 ++ ds)
zeros-plain zero ds h = h
zeros-plain (suc k) ds h = zeros-plain k ds h

padded_zeros : (ds : List ℕ) → (k : ℕ) × (padded_integral (format_spec 32 0 4 16 (2 ^ 64 - 1)) false [] ds ≡ replicate k 48 ++ ds)
unfolding padded_integral char_count
padded_zeros ds = (16 - length ds - 0 - 0, simp append-nil refl)

hex_plain : (n : ℕ) → IsPlain (digits 16 false n)
unfolding digits
hex_plain n = digits_onto-plain 64 16 n [] (omega arith) (omega arith) refl

pub hex_word-plain : (n : ℕ) → IsPlain (hex_word n)
unfolding hex_word
hex_word-plain n = let z = padded_zeros (digits 16 false n) in rw z.1 (zeros-plain z.0 (digits 16 false n) (hex_plain n))

-- ---- numbers in decimal digits

own : IsNumeralModel (λ ds. all_ascii_digits ds ≡ true) (digits_value 10)
own = numerals_by_value _ tells_all_ascii_digits

one_digit : (n : ℕ) → n < 10 → is_ascii_digit (48 + n) ≡ true
one_digit n h = rw (le-leb 48 (48 + n) (omega arith), le-leb (48 + n) 57 (omega arith)) refl

-- no zero leads where there are several digits
several : (ds : List ℕ) → 2 ≤ length ds → 48 < get_or ds 0 0 → all_ascii_digits ds ≡ true → is_numeral ds ≡ true
several ds long first all = is_numeral-long ds long ∙ rw (ne_eqb (get_or ds 0 0) 48 (λ e. omega (arith, first, e)), all) refl

two_digits : (n : ℕ) → 10 ≤ n → n < 2 ^ 64 → 2 ≤ length (decimal n)
two_digits n many h =
    let front : 0 < length (decimal (n / 10)) = decimal_nonempty (n / 10) (omega arith) in
    rw (decimal_step n many h) (omega (arith, front, length-append (decimal (n / 10)) ((48 + n % 10) ∷ [])))

is_numeral-decimal : (n : ℕ) → n < 2 ^ 64 → is_numeral (decimal n) ≡ true
is_numeral-decimal n h =
    ⊎_elim (λ (few : n < 10). rw (decimal_digit n few) (one_digit n few))
    (λ (many : 10 ≤ n). several (decimal n) (two_digits n many h) (first_decimal n (omega arith) h) (digits_decimal own n h))
    (cases_lt n 10)

pub number-decimal : (n : ℕ) → n < 2 ^ 64 → number (2 ^ 64 - 1) (decimal n) ≡ Some n
unfolding number
number-decimal n h =
    let value : digits_value 10 (decimal n) ≡ n = digits_value-decimal own n h in
    rw (is_numeral-decimal n h, value, le-leb n (2 ^ 64 - 1) (omega arith)) refl

-- ---- words in hexadecimal digits

zeros-value : (k : ℕ) (ds : List ℕ) → digits_value_after 16 0 (replicate k 48 ++ ds) ≡ digits_value_after 16 0 ds
zeros-value zero ds = refl
zeros-value (suc k) ds = zeros-value k ds

zeros-digits : (k : ℕ) (ds : List ℕ) → AllDigits 16 ds → AllDigits 16 (replicate k 48 ++ ds)
zeros-digits zero ds h = h
zeros-digits (suc k) ds h = (omega arith, zeros-digits k ds h)

-- its first byte is no sign
unsigned : (w : List ℕ) → AllDigits 16 w → get_or w 0 0 ≢ 43
unsigned [] h e = omega arith
unsigned (c ∷ cs) h e = let small : digit_value 43 < 16 = subst (λ x. digit_value x < 16) e h.0 in omega (arith, small)

pub hex_word-numeral : (n : ℕ) → n < 2 ^ 64 → IsNumeral 16 (hex_word n) × (digits_value 16 (hex_word n) ≡ n)
unfolding hex_word
hex_word-numeral n h =
    let z = padded_zeros (digits 16 false n) in
    let is = digits_is_IsNumeral 16 false (omega arith) (omega arith) n (omega arith) in
    rw z.1 ((omega (arith, is.0.0, length-append (replicate z.0 48) (digits 16 false n)), zeros-digits z.0 (digits 16 false n) is.0.1), zeros-value z.0 (digits 16 false n) ∙ is.1)

pub parsed-hex_word : {E : Type 0} (n : ℕ) (bs : List ℕ) (r : Result ℕ E) → n < 2 ^ 64 → bs ≡ hex_word n → ParsesUnsigned 64 16 bs r → r ≡ Ok n
parsed-hex_word n bs r h e p =
    let is = hex_word-numeral n h in
    let whole : without_leading_plus bs ≡ hex_word n = without_leading_plus_none bs (rw e (unsigned (hex_word n) is.0.1)) ∙ e in
    let small : digits_value 16 (hex_word n) < 2 ^ 64 = omega (arith, is.1) in
    Ok-from_Ok_iff r (IsNumeral 16 (without_leading_plus bs) × (digits_value 16 (without_leading_plus bs) < 2 ^ 64)) (digits_value 16 (without_leading_plus bs)) p (rw whole (is.0, small)) ∙ ap Ok (ap (digits_value 16) whole ∙ is.1)

-- ---- an event's word

op-small : (o : Op) → op_code o < 4
op-small New = omega arith
op-small Forward = omega arith
op-small Release = omega arith
op-small ForwardMore = omega arith

kind-small : (k : Kind) → kind_code k < 3
kind-small Ordered = omega arith
kind-small Atomic = omega arith
kind-small Parallel = omega arith

sum-small : (f s t o k q r i : ℕ) → f < 2 ^ 20 → s < 2 ^ 8 → t < 2 ^ 4 → o < 4 → k < 3 → q < 2 ^ 8 → r < 2 ^ 8 → i < 2 ^ 8
    → f + 2 ^ 20 * (s + 2 ^ 8 * (t + 2 ^ 4 * (o + 2 ^ 2 * (2 ^ 4 * (k + 2 ^ 2 * (q + 2 ^ 8 * (r + 2 ^ 8 * i))))))) < 2 ^ 64
sum-small f s t o k q r i hf hs ht ho hk hq hr hi = omega arith

pub word-small : (e : Event) (k : Kind) → Fits e → word_of e k < 2 ^ 64
word-small e k h =
    sum-small e.flow e.sub_type e.event_type (op_code e.op) (kind_code k) e.queue e.priority e.impl_opaque e.flow_fits h.sub_type e.event_type_fits (op-small e.op) (kind-small k) h.queue h.priority h.impl_opaque
