-- The lane with fewest events of a set of lanes: a walk over the set.
use Rattle.std.proofs.Common.{◌≡◌, ◌≢◌, ℕ, ◌<◌, ◌≤◌, ◌^◌, ◌⊎◌, inl, inr, ⊎_elim, sym, ap, subst, arith}
use Rattle.std.proofs.lemmas.Bool.{cases_eq, cases_lt}
use Rattle.std.proofs.lemmas.Nat.Bits.{bit_at_above}
use Rattle.order_parts.specs.Dealing.{HasFewer}
use Rattle.small_set.specs.SmallSets.{Has, IsFirst, SameBut}
use Rattle.small_set.specs.declared.set.SmallSet.{SmallSet}

-- ---- of two lanes

pub not_itself : (load : ℕ → ℕ) (l m : ℕ) → l ≡ m → ¬ HasFewer load m l
not_itself load l m same (inl fewer) = let e = ap load same in omega arith
not_itself load l m same (inr lower) = let lt = lower.1 in omega arith

not_better : (load : ℕ → ℕ) (b n : ℕ) → load b ≤ load n → b < n → ¬ HasFewer load n b
not_better load b n le below (inl fewer) = omega arith
not_better load b n le below (inr lower) = let lt = lower.1 in omega arith

not_better_too : (load : ℕ → ℕ) (b n m : ℕ) → load n < load b → ¬ HasFewer load m b → ¬ HasFewer load m n
not_better_too load b n m gt worse (inl fewer) = worse (inl (omega arith))
not_better_too load b n m gt worse (inr lower) = let e = lower.0 in worse (inl (omega arith))

-- ---- a walk over lanes

-- the best one of the lanes that were walked over: all but those that are left, which come after it
pub record IsWalked (load : ℕ → ℕ) (lanes left : SmallSet) (best : ℕ) : Type 0 where
  pub among : (m : ℕ) → Has left m → Has lanes m
  pub there : Has lanes best
  pub later : (m : ℕ) → Has left m → best < m
  pub least : (m : ℕ) → Has lanes m → ¬ Has left m → ¬ HasFewer load m best

module _ (load : ℕ → ℕ) (lanes left rest : SmallSet) (k : ℕ) (first : IsFirst left k) (gone : Has rest k → ⊥) (others : SameBut k left rest) where
  stayed : (m : ℕ) → Has rest m → Has left m × (m ≢ k)
  stayed m has = let apart : m ≢ k = λ e. gone (subst (Has rest) e has) in ((others m apart).0 has, apart)

  after : (m : ℕ) → Has rest m → k < m
  after m has = let was = stayed m has in let le = first.first m was.0 in let ne = was.1 in omega (arith, le, λ (e : k ≡ m). ne (sym e))

  walked : (m : ℕ) → ¬ Has rest m → (m ≡ k) ⊎ ¬ Has left m
  walked m past = ⊎_elim (λ e. inl e) (λ ne. inr (λ has. past ((others m ne).1 has))) (cases_eq m k)

  -- the first one alone
  pub walk_first : ((m : ℕ) → Has left m → Has lanes m) → ((m : ℕ) → Has lanes m → Has left m) → IsWalked load lanes rest k
  walk_first among all =
      record {
        among = λ m has. among m (stayed m has).0;
        there = among k first.there;
        later = after;
        least = λ m has past. ⊎_elim (λ e. not_itself load k m (sym e)) (λ out. absurd (out (all m has))) (walked m past);
      }

  -- one more, which has no fewer
  pub walk_on : (best : ℕ) → load best ≤ load k → IsWalked load lanes left best → IsWalked load lanes rest best
  walk_on b le w =
      record {
        among = λ m has. w.among m (stayed m has).0;
        there = w.there;
        later = λ m has. w.later m (stayed m has).0;
        least = λ m has past. ⊎_elim (λ e. subst (λ n. ¬ HasFewer load n b) (sym e) (not_better load b k le (w.later k first.there))) (λ out. w.least m has out) (walked m past);
      }

  -- one more, which has fewer
  pub walk_over : (best : ℕ) → load k < load best → IsWalked load lanes left best → IsWalked load lanes rest k
  walk_over b lt w =
      record {
        among = λ m has. w.among m (stayed m has).0;
        there = w.among k first.there;
        later = after;
        least = λ m has past. ⊎_elim (λ e. not_itself load k m (sym e)) (λ out. not_better_too load b k m lt (w.least m has out)) (walked m past);
      }

-- a set has numbers below 64 alone
pub has_low : (lanes : SmallSet) (l : ℕ) → lanes.bits < 2 ^ 64 → Has lanes l → l < 64
has_low lanes l fits has = ⊎_elim (λ lt. lt) (λ ge. let zero = bit_at_above lanes.bits 64 l fits ge in absurd (omega arith)) (cases_lt l 64)
