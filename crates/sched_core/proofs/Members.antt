-- The members of a set, found one by one.
use Rattle.std.proofs.Common.{◌≡◌, ℕ, ◌+◌, ◌<◌, ◌≤◌, List, [], ◌∷◌, ◌++◌, ◌⊎◌, length, get_or, inl, inr, ⊎_elim, refl, sym, ap, ◌∙◌, subst, arith}
use Rattle.std.proofs.lemmas.Bool.{cases_eq, cases_lt}
use Rattle.std.proofs.lemmas.List.{length_push, get_or_append_left, get_or_push}
use Rattle.small_set.specs.SmallSets.{Has, SameBut, IsEmpty}
use Rattle.small_set.specs.declared.set.SmallSet.{SmallSet}
use Rattle.sched_core.specs.Members.{AreSets, AreThose}

pub those_none : (IsSo : ℕ → Type 0) (set : SmallSet) → IsEmpty set → AreThose IsSo 0 set
those_none IsSo set none k = (λ has. absurd (none k has), λ both. let lt = both.0 in absurd (omega arith))

pub those_on : (IsSo : ℕ → Type 0) (n : ℕ) (set more : SmallSet) → IsSo n → Has more n → SameBut n set more → AreThose IsSo n set → AreThose IsSo (n + 1) more
those_on IsSo n set more so here others those k = (
  λ has. ⊎_elim (λ e. (omega (arith, e), subst IsSo (sym e) so)) (λ ne. let was = (those k).0 ((others k ne).0 has) in let lt = was.0 in (omega arith, was.1)) (cases_eq k n),
  λ both. ⊎_elim (λ e. subst (Has more) (sym e) here) (λ ne. let lt = both.0 in (others k ne).1 ((those k).1 (omega (arith, ne), both.1))) (cases_eq k n),
)

pub those_past : (IsSo : ℕ → Type 0) (n : ℕ) (set : SmallSet) → ¬ IsSo n → AreThose IsSo n set → AreThose IsSo (n + 1) set
those_past IsSo n set never those k = (
  λ has. let was = (those k).0 has in let lt = was.0 in (omega arith, was.1),
  λ both. ⊎_elim (λ e. absurd (never (subst IsSo e both.1))) (λ ne. let lt = both.0 in (those k).1 (omega (arith, ne), both.1)) (cases_eq k n),
)

-- ---- one element more

-- what is so of each element of a list, and of one more, is so of each of the longer list
pub each_more : {A : Type 0} (Is : ℕ → A → Type 0) (n : ℕ) (xs : List A) (x : A) → length xs ≡ n → ((k : ℕ) (d : A) → k < length xs → Is k (get_or xs k d)) → Is n x → (k : ℕ) (d : A) → k < length (xs ++ x ∷ []) → Is k (get_or (xs ++ x ∷ []) k d)
each_more {A} Is n xs x count all one k d h = by_case (subst (λ m. k < m) (length_push xs x) h) (cases_lt k (length xs))
  where
    by_case : k < length xs + 1 → (k < length xs) ⊎ (length xs ≤ k) → Is k (get_or (xs ++ x ∷ []) k d)
    by_case lt (inl here) = subst (Is k) (sym (get_or_append_left xs (x ∷ []) d k here)) (all k d here)
    by_case lt (inr past) =
        let last : length xs ≡ k = omega arith in
        subst (Is k) (sym (get_or_push xs x d k last)) (subst (λ m. Is m x) (sym count ∙ last) one)

pub one_more : {A : Type 0} (xs : List A) (x : A) (n : ℕ) → length xs ≡ n → length (xs ++ x ∷ []) ≡ n + 1
one_more xs x n count = length_push xs x ∙ ap (λ m. m + 1) count

pub sets_none : (IsSo : ℕ → ℕ → Type 0) (m : ℕ) → AreSets IsSo m 0 []
sets_none IsSo m = record { count = refl; each = λ q d h. absurd (omega arith) }

pub sets_more : (IsSo : ℕ → ℕ → Type 0) (m n : ℕ) (sets : List SmallSet) (set : SmallSet) → AreSets IsSo m n sets → AreThose (IsSo n) m set → AreSets IsSo m (n + 1) (sets ++ set ∷ [])
sets_more IsSo m n sets set all one = record { count = one_more sets set n all.count; each = each_more (λ q s. AreThose (IsSo q) m s) n sets set all.count all.each one }
