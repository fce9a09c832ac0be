-- Bits of a word: of a set of them, of the first ones, of two words joined.
use Rattle.std.proofs.Common.{◌≡◌, ◌≢◌, ℕ, zero, suc, ◌-◌, ◌*◌, ◌/◌, ◌^◌, ◌%◌, ◌<◌, ◌≤◌, inl, inr, ⊎_elim, ◌∙◌, sym, ap, arith, w64}
use Rattle.std.proofs.lemmas.Bool.{cases_lt, cases_eq}
use Rattle.std.proofs.lemmas.Nat.Bits.{bit_at_lowest, bit_at-suc, bit_at_and, bit_at_or, bit_at-lt, bit_at-zero, bit_at-trailing_zeros, bit_at_clear_other, bit_at_not, bit_at_above, bit_at_ones, bit_at_ones_above, same_from_bits}
use Rattle.std.specs.Prelude.{bit_and, bit_or, ◌↔◌, ◌⊎◌}
use Rattle.std.specs.Int.{bit_at, bit_not, trailing_zeros}

pub same_bits : (a b : ℕ) → a ≡ b → (a ≡ 1) ↔ (b ≡ 1)
same_bits a b e = (λ x. sym e ∙ x, λ x. e ∙ x)

pub in_both : (a b i : ℕ) → (bit_at (bit_and a b) i ≡ 1) ↔ ((bit_at a i ≡ 1) × (bit_at b i ≡ 1))
in_both a b i =
    let e = bit_at_and a b i in
    let x = bit_at-lt a i in
    let y = bit_at-lt b i in
    (λ h. (omega arith, omega arith), λ h. let l = h.0 in let r = h.1 in omega arith)

pub in_either : (a b i : ℕ) → (bit_at (bit_or a b) i ≡ 1) ↔ ((bit_at a i ≡ 1) ⊎ (bit_at b i ≡ 1))
in_either a b i =
    let e = bit_at_or a b i in
    let x = bit_at-lt a i in
    let y = bit_at-lt b i in
    (λ h. ⊎_elim (λ (z : bit_at a i ≡ 1). inl z) (λ other. inr (omega arith)) (cases_eq (bit_at a i) 1), λ h. ⊎_elim (λ l. omega arith) (λ r. omega arith) h)

-- the first ones
pub in_ones : (k i : ℕ) → (bit_at (2 ^ k - 1) i ≡ 1) ↔ (i < k)
in_ones k i =
    (λ h. ⊎_elim (λ lt. lt) (λ ge. let zero = bit_at_ones_above k i ge in absurd (omega arith)) (cases_lt i k), λ lt. bit_at_ones k i lt)

-- a word without ones is 0
pub no_ones : (n : ℕ) → ((i : ℕ) → bit_at n i ≡ 1 → ⊥) → n ≡ 0
no_ones n none = same_from_bits n 0 (λ i. let zero = bit_at-zero i in let small = bit_at-lt n i in ⊎_elim (λ one. absurd (none i one)) (λ other. omega arith) (cases_eq (bit_at n i) 1))

-- the lowest one
pub lowest : (n : ℕ) → n ≢ 0 → n < 2 ^ 64 → (trailing_zeros w64 n < 64) × (bit_at n (trailing_zeros w64 n) ≡ 1) × ((i : ℕ) → bit_at n i ≡ 1 → trailing_zeros w64 n ≤ i)
lowest n some fits =
    let t = bit_at-trailing_zeros w64 n (omega arith) fits in
    (t.0, t.1, λ i one. ⊎_elim (λ lt. let zero = t.2 i lt in absurd (omega arith)) (λ ge. ge) (cases_lt i (trailing_zeros w64 n)))

-- a word with a one is not 0
one_some : (n k : ℕ) → bit_at n k ≡ 1 → 0 < n
one_some n k one = ⊎_elim (λ none. let e = ap (λ x. bit_at x k) none in let zero = bit_at-zero k in absurd (omega arith)) (λ some. omega arith) (cases_eq n 0)

-- One less than a word: its lowest one is gone, and each bit above stays.
one_less : (k n : ℕ) → 0 < n → bit_at n k ≡ 1 → ((i : ℕ) → i < k → bit_at n i ≡ 0) → (bit_at (n - 1) k ≡ 0) × ((i : ℕ) → k < i → bit_at (n - 1) i ≡ bit_at n i)
one_less zero n some one low =
    let odd = bit_at_lowest n in
    let half : (n - 1) / 2 ≡ n / 2 = omega arith in
    (omega (arith, bit_at_lowest (n - 1)), above half)
  where
    above : (n - 1) / 2 ≡ n / 2 → (i : ℕ) → 0 < i → bit_at (n - 1) i ≡ bit_at n i
    above half zero more = absurd (omega arith)
    above half (suc i) more = bit_at-suc (n - 1) i ∙ ap (λ x. bit_at x i) half ∙ sym (bit_at-suc n i)
one_less (suc k) n some one low =
    let even = sym (bit_at_lowest n) ∙ low 0 (omega arith) in
    let half : (n - 1) / 2 ≡ n / 2 - 1 = omega arith in
    let rest = one_less k (n / 2) (omega arith) (sym (bit_at-suc n k) ∙ one) (λ i lt. sym (bit_at-suc n i) ∙ low (suc i) (omega arith)) in
    (bit_at-suc (n - 1) k ∙ ap (λ x. bit_at x k) half ∙ rest.0, above half rest.1)
  where
    above : (n - 1) / 2 ≡ n / 2 - 1 → ((i : ℕ) → k < i → bit_at (n / 2 - 1) i ≡ bit_at (n / 2) i) → (i : ℕ) → suc k < i → bit_at (n - 1) i ≡ bit_at n i
    above half rest zero more = absurd (omega arith)
    above half rest (suc i) more = bit_at-suc (n - 1) i ∙ ap (λ x. bit_at x i) half ∙ rest i (omega arith) ∙ sym (bit_at-suc n i)

-- the lowest one is taken out
module _ (n k : ℕ) (one : bit_at n k ≡ 1) (first : (i : ℕ) → bit_at n i ≡ 1 → k ≤ i) where
  none_below : (i : ℕ) → i < k → bit_at n i ≡ 0
  none_below i lt = let small = bit_at-lt n i in ⊎_elim (λ there. let le = first i there in absurd (omega arith)) (λ other. omega arith) (cases_eq (bit_at n i) 1)

  pub lowest_gone : bit_at (bit_and n (n - 1)) k ≡ 0
  lowest_gone = let less = (one_less k n (one_some n k one) one none_below).0 in omega (arith, bit_at_and n (n - 1) k)

  pub lowest_others : (i : ℕ) → i ≢ k → bit_at (bit_and n (n - 1)) i ≡ bit_at n i
  lowest_others i apart =
      let both = bit_at_and n (n - 1) i in
      ⊎_elim
      (λ lt. let zero = none_below i lt in omega arith)
      (λ ge. let same = (one_less k n (one_some n k one) one none_below).1 i (omega arith) in omega arith)
      (cases_lt i k)

-- a one is cleared
module _ (n k : ℕ) (within : k < 64) (fits : n < 2 ^ 64) where
  pub cleared_others : (i : ℕ) → i ≢ k → bit_at (bit_and n (bit_not w64 (1 * 2 ^ k % 2 ^ 64))) i ≡ bit_at n i
  cleared_others i apart =
      ⊎_elim (λ low. bit_at_clear_other w64 n k within i low apart)
      (λ high. let zero = bit_at_above n 64 i fits high in let both = bit_at_and n (bit_not w64 (1 * 2 ^ k % 2 ^ 64)) i in omega arith)
      (cases_lt i 64)

-- of two words, the ones of the first alone
pub in_first_alone : (a b i : ℕ) → a < 2 ^ 64 → b < 2 ^ 64 → (bit_at (bit_and a (bit_not w64 b)) i ≡ 1) ↔ ((bit_at a i ≡ 1) × (bit_at b i ≡ 1 → ⊥))
in_first_alone a b i fits fits_too = ⊎_elim low high (cases_lt i 64)
  where
    low : i < 64 → (bit_at (bit_and a (bit_not w64 b)) i ≡ 1) ↔ ((bit_at a i ≡ 1) × (bit_at b i ≡ 1 → ⊥))
    low lt =
        let e = bit_at_and a (bit_not w64 b) i in
        let f = bit_at_not w64 b i fits_too lt in
        let x = bit_at-lt a i in
        let y = bit_at-lt b i in
        (λ h. (omega arith, λ one. omega arith), λ h. let l = h.0 in ⊎_elim (λ one. absurd (h.1 one)) (λ other. omega arith) (cases_eq (bit_at b i) 1))

    high : 64 ≤ i → (bit_at (bit_and a (bit_not w64 b)) i ≡ 1) ↔ ((bit_at a i ≡ 1) × (bit_at b i ≡ 1 → ⊥))
    high ge =
        let e = bit_at_and a (bit_not w64 b) i in
        let zero = bit_at_above a 64 i fits ge in
        (λ h. absurd (omega arith), λ h. let l = h.0 in absurd (omega arith))
