-- One look more.
use Rattle.std.proofs.Common.{◌≡◌, ℕ, zero, suc, ◌+◌, ◌-◌, ◌^◌, min, cond, [], ◌∷◌, length, count_by, sum_by, sym, ap, ◌∙◌, arith}
use Rattle.std.proofs.lemmas.List.Sums.{sum_by-cons}
use Rattle.event_ports.specs.Counts.{no_counts, plus}
use Rattle.event_ports.specs.declared.counts.PortCounts.{PortCounts}
use Rattle.run_counts.specs.Looking.{HasLooked, found_nothing, looked, no_looks}
use Rattle.run_counts.specs.declared.looks.Looks.{Looks}

-- nothing was looked for, and nothing is dequeued
pub looks_first : (c : PortCounts) (l : Looks) → l ≡ no_looks → c.dequeued ≡ 0 → HasLooked no_counts c l
looks_first c l none nothing = ([], record { all = ap (λ (x : Looks). x.all) none; vain = ap (λ (x : Looks). x.vain) none; found = nothing })

-- counts that stay at their greatest add up
plus_plus : (a b c : ℕ) → plus (plus a b) c ≡ plus a (c + b)
plus_plus a b c = omega arith

-- one more than a count that stays at its greatest
one_more : (n m : ℕ) → n ≡ min m (2 ^ 64 - 1) → plus n 1 ≡ min (suc m) (2 ^ 64 - 1)
one_more n m is = omega (arith, is)

add_one : (n : ℕ) → suc n ≡ 1 + n
add_one n = omega arith

add_none : (n : ℕ) → n ≡ 0 + n
add_none n = omega arith

module _ (before between after : PortCounts) where
  found_more : (came : ℕ) (l : Looks) (h : HasLooked before between l) → after.dequeued ≡ plus between.dequeued came → after.dequeued ≡ plus before.dequeued (sum_by (λ n. n) (came ∷ h.0))
  found_more came l h dequeued =
      dequeued
      ∙ (ap (λ n. plus n came) h.1.found
      ∙ (plus_plus before.dequeued (sum_by (λ n. n) h.0) came ∙ ap (plus before.dequeued) (sym (sum_by-cons (λ (n : ℕ). n) came h.0))))

  pub looks_more : (came : ℕ) (l : Looks) → HasLooked before between l → after.dequeued ≡ plus between.dequeued came → HasLooked before after (looked came l)
  looks_more zero l h dequeued = (
    zero ∷ h.0,
    record {
      all = one_more l.all (length h.0) h.1.all;
      vain = one_more l.vain (count_by found_nothing h.0) h.1.vain ∙ ap (λ n. min n (2 ^ 64 - 1)) (add_one (count_by found_nothing h.0) ∙ sym (sum_by-cons (λ n. cond (found_nothing n) 1 0) zero h.0));
      found = found_more zero l h dequeued;
    },
  )
  looks_more (suc came) l h dequeued = (
    suc came ∷ h.0,
    record {
      all = one_more l.all (length h.0) h.1.all;
      vain = h.1.vain ∙ ap (λ n. min n (2 ^ 64 - 1)) (add_none (count_by found_nothing h.0) ∙ sym (sum_by-cons (λ n. cond (found_nothing n) 1 0) (suc came) h.0));
      found = found_more (suc came) l h dequeued;
    },
  )
