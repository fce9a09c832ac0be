-- A printed word has 16 digits.
use Rattle.std.proofs.Common.{◌≡◌, ℕ, zero, suc, ◌+◌, ◌-◌, ◌*◌, ◌/◌, ◌%◌, ◌^◌, ◌<◌, ◌≤◌, Bool, true, false, cond, eqb, List, [], ◌∷◌, length, refl, arith, length-append, append-nil}
use Rattle.std.proofs.Math.Nat.{div-lt_iff_lt-mul, pow-suc}
use Rattle.std.proofs.lemmas.Bool.{eqb-false}
use Rattle.std.proofs.lemmas.List.{length-replicate}
use Rattle.std.specs.Fmt.{digits, digits_onto, digit_glyph, char_count, padded_integral, format_spec}
use Rattle.play_text.specs.Text.{hex_word}

-- what is left after a digit has a digit less
quotient_small : (m n : ℕ) → n < 16 ^ suc m → n / 16 < 16 ^ m
quotient_small m n h = let e : 16 ^ suc m ≡ 16 ^ m * 16 = pow-suc 16 m in (div-lt_iff_lt-mul {k = 16} {x = n} {y = 16 ^ m} (omega arith)).1 (omega (arith, e))

-- a number below 16 ^ (m + 1) has no more than m + 1 digits
hex_short : (k m n : ℕ) (acc : List ℕ) → n < 16 ^ suc m → length (digits_onto k 16 false n acc) ≤ suc m + length acc
hex_short zero m n acc h = omega arith
hex_short (suc k) zero n acc h =
    let g = digit_glyph false (n % 16) in
    let none : n / 16 < 1 = quotient_small zero n h in
    let by : (b : Bool) → eqb (n / 16) 0 ≡ b → length (cond b (g ∷ acc) (digits_onto k 16 false (n / 16) (g ∷ acc))) ≤ suc zero + length acc =
    λ b. elim b as (λ b. eqb (n / 16) 0 ≡ b → length (cond b (g ∷ acc) (digits_onto k 16 false (n / 16) (g ∷ acc))) ≤ suc zero + length acc) [ true ↦ λ e. omega arith | false ↦ λ e. absurd (eqb-false (n / 16) 0 e (omega arith)) ] in
    by (eqb (n / 16) 0) refl
hex_short (suc k) (suc m) n acc h =
    let g = digit_glyph false (n % 16) in
    let rest : length (digits_onto k 16 false (n / 16) (g ∷ acc)) ≤ suc m + length (g ∷ acc) = hex_short k m (n / 16) (g ∷ acc) (quotient_small (suc m) n h) in
    elim (eqb (n / 16) 0) as (λ b. length (cond b (g ∷ acc) (digits_onto k 16 false (n / 16) (g ∷ acc))) ≤ suc (suc m) + length acc) [ true ↦ omega arith | false ↦ omega (arith, rest) ]

digits_short : (n : ℕ) → n < 2 ^ 64 → length (digits 16 false n) ≤ 16
unfolding digits
digits_short n h = let small : n < 16 ^ suc 15 = omega (arith, h) in omega (arith, hex_short 64 15 n [] small)

padded_long : (ds : List ℕ) → length ds ≤ 16 → length (padded_integral (format_spec 32 0 4 16 (2 ^ 64 - 1)) false [] ds) ≡ 16
unfolding padded_integral char_count
padded_long ds h = simp (length-append, length-replicate, append-nil) (omega arith)

pub hex_word-length : (n : ℕ) → n < 2 ^ 64 → length (hex_word n) ≡ 16
unfolding hex_word
hex_word-length n h = padded_long (digits 16 false n) (digits_short n h)
