-- The four lists after a change of one of them.
use Rattle.std.proofs.Common.{◌≡◌, ◌≢◌, ℕ, ◌<◌, ◌≤◌, List, [], length, ap, subst, sym, ◌∙◌, arith, slice_get, Option, Some, None, ⊎_elim}
use Rattle.std.specs.Prelude.{All, IfSome}
use Rattle.std.proofs.lemmas.Bool.{cases_eq}
use Rattle.std.proofs.lemmas.List.{length-set, get_or-set_same, get_or-set_other, set-get_or}
use Rattle.std.proofs.lemmas.Option.{slice_get_within, get_or_from_slice_get}
use Rattle.evt_types.specs.declared.event.Numbered.{Numbered}
use Rattle.level_queues.specs.Lists.{Lists, AreLevels, IsOfLevel, list_at, item_at, with_list, without}
use Rattle.level_queues.proofs.Removed.{remove_past, slice_get-none}

-- the list that was changed
pub list_at-same : (v : Lists) (k : ℕ) (xs : List Numbered) → k < length v.lists → list_at (with_list v k xs) k ≡ xs
list_at-same v k xs p = get_or-set_same v.lists k xs [] p

-- the other three
pub list_at-other : (v : Lists) (k m : ℕ) (xs : List Numbered) → m ≢ k → list_at (with_list v k xs) m ≡ list_at v m
list_at-other v k m xs n = get_or-set_other v.lists k m xs [] n

-- where there is no item, nothing is taken out
pub without-none : (v : Lists) (k i : ℕ) → item_at v k i ≡ None → without v k i ≡ v
without-none v k i e =
    ap (with_list v k) (remove_past (list_at v k) i (slice_get-none (list_at v k) i e))
    ∙ ap (λ (xss : List (List Numbered)). let y : Lists = record { capacity = v.capacity; lists = xss } in y) (set-get_or v.lists k [])

-- they stay sound
pub AreLevels-with_list : (v : Lists) (k : ℕ) (xs : List Numbered) → AreLevels v → k < 4 → length xs ≤ v.capacity → All (IsOfLevel k) xs → AreLevels (with_list v k xs)
AreLevels-with_list v k xs h p room all =
    let there : k < length v.lists = omega (arith, h.four) in
    record {
      four = length-set v.lists k xs ∙ h.four;
      within =
          λ (m : ℕ).
          ⊎_elim
          (λ (e : m ≡ k). subst (λ (j : ℕ). length (list_at (with_list v k xs) j) ≤ v.capacity) (sym e) (subst (λ (ys : List Numbered). length ys ≤ v.capacity) (sym (list_at-same v k xs there)) room))
          (λ (n : m ≢ k). subst (λ (ys : List Numbered). length ys ≤ v.capacity) (sym (list_at-other v k m xs n)) (h.within m))
          (cases_eq m k);
      levelled =
          λ (m : ℕ).
          ⊎_elim
          (λ (e : m ≡ k). subst (λ (j : ℕ). All (IsOfLevel j) (list_at (with_list v k xs) j)) (sym e) (subst (All (IsOfLevel k)) (sym (list_at-same v k xs there)) all))
          (λ (n : m ≢ k). subst (All (IsOfLevel m)) (sym (list_at-other v k m xs n)) (h.levelled m))
          (cases_eq m k);
    }

-- what stands in a list all of whose events are of a level
pub level_of_found : (k : ℕ) (xs : List Numbered) (i : ℕ) (r : Option Numbered) → All (IsOfLevel k) xs → r ≡ slice_get xs i → IfSome r (IsOfLevel k)
level_of_found k xs i None h e = tt
level_of_found k xs i (Some n) h e =
    subst (IsOfLevel k) (get_or_from_slice_get xs i n n (sym e)) (h i n (slice_get_within xs i n (sym e)))
