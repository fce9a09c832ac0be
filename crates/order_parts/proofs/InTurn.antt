-- The oldest places of a buffer, and the events that have them.
use Rattle.std.proofs.Common.{◌≡◌, ℕ, zero, suc, ◌+◌, ◌-◌, ◌<◌, ◌≤◌, ◌⊎◌, inl, inr, List, [], ◌∷◌, ◌++◌, Some, ap, arith, length, refl, slice_get, sym, take, ◌∙◌}
use Rattle.std.proofs.lemmas.List.{length-drop, length-take-le}
use Rattle.std.proofs.lemmas.Option.{none-some, same_Some, slice_get_within}
use Rattle.order_parts.specs.InTurn.{AreInTurn}
use Rattle.order_parts.specs.Reorder.{Reordering, number_of, without_first, without_oldest}
use Rattle.order_parts.specs.declared.history.Entry.{Entry}
use Rattle.order_parts.proofs.Unpinning.{take_at}

-- one more leaves
pub left_more : (n : ℕ) (r : Reordering) → without_first r (n + 1) ≡ without_oldest (without_first r n)
left_more zero r = refl
left_more (suc n) r = let one : suc n + 1 ≡ suc (n + 1) = omega arith in ap (without_first r) one ∙ left_more n (without_oldest r)

-- how many are left
pub left_count : (n : ℕ) (r : Reordering) → length (without_first r n).places ≡ length r.places - n
left_count zero r = omega arith
left_count (suc n) r = left_count n (without_oldest r) ∙ (ap (λ m. m - n) (length-drop 1 r.places) ∙ omega arith)

-- as many as there may be
pub left_depth : (n : ℕ) (r : Reordering) → (without_first r n).depth ≡ r.depth
left_depth zero r = refl
left_depth (suc n) r = left_depth n (without_oldest r)

pub some_left : (n count : ℕ) (r : Reordering) → n < count → count ≤ length r.places → 0 < length (without_first r n).places
some_left n count r lt few = omega (arith, lt, few, left_count n r)

-- no event has a place
pub none_in_turn : (q : ℕ) (r : Reordering) (ys : List Entry) → AreInTurn q r (take 0 ys)
none_in_turn q r [] k y at = absurd (none-some y at)
none_in_turn q r (x ∷ xs) k y at = absurd (none-some y at)

-- one more has the next place
at_end : (xs : List Entry) (x y : Entry) (k : ℕ) → slice_get (xs ++ x ∷ []) k ≡ Some y → (slice_get xs k ≡ Some y) ⊎ ((k ≡ length xs) × (x ≡ y))
at_end [] x y zero at = inr (refl, same_Some x y at)
at_end [] x y (suc k) at = absurd (none-some y at)
at_end (z ∷ zs) x y zero at = inl at
at_end (z ∷ zs) x y (suc k) at = by_rest (at_end zs x y k at)
  where
    by_rest : (slice_get zs k ≡ Some y) ⊎ ((k ≡ length zs) × (x ≡ y)) → (slice_get zs k ≡ Some y) ⊎ ((suc k ≡ suc (length zs)) × (x ≡ y))
    by_rest (inl there) = inl there
    by_rest (inr last) = inr (ap suc last.0, last.1)

pub more_in_turn : (q n : ℕ) (r : Reordering) (ys : List Entry) (x : Entry) → AreInTurn q r (take n ys) → slice_get ys n ≡ Some x → x.queue ≡ q → x.place ≡ number_of r n → AreInTurn q r (take (n + 1) ys)
more_in_turn q n r ys x before there of place k y at = by_end (at_end (take n ys) x y k (ap (λ zs. slice_get zs k) (sym (take_at ys n x there)) ∙ at))
  where
    long : length (take n ys) ≡ n
    long = length-take-le n ys (omega (arith, slice_get_within ys n x there))

    by_end : (slice_get (take n ys) k ≡ Some y) ⊎ ((k ≡ length (take n ys)) × (x ≡ y)) → (y.queue ≡ q) × (y.place ≡ number_of r k)
    by_end (inl old) = before k y old
    by_end (inr new) = (
      ap (λ (z : Entry). z.queue) (sym new.1) ∙ of,
      ap (λ (z : Entry). z.place) (sym new.1) ∙ (place ∙ ap (number_of r) (sym (new.0 ∙ long))),
    )
