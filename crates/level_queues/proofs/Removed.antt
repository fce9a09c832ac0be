-- What taking one item out of a list leaves.
use Rattle.std.proofs.Common.{◌≡◌, ℕ, ◌+◌, ◌-◌, ◌<◌, ◌≤◌, List, [], ◌∷◌, ◌++◌, length, take, drop, refl, ap, ◌∙◌, arith, None, zero, suc, add-one, get_or, slice_get}
use Rattle.std.specs.List.{remove}
use Rattle.std.specs.Prelude.{All}
use Rattle.std.proofs.lemmas.List.{length-append, length-take, length-drop, length_push, take_more, take_at, drop_at}
use Rattle.std.proofs.lemmas.List.Elements.{All-append, All-take, All-drop}

module _ {X : Type 0} where
  -- past the end nothing is taken out
  pub remove_past : (xs : List X) (i : ℕ) → length xs ≤ i → remove xs i ≡ xs
  remove_past [] zero p = refl
  remove_past [] (suc i) p = refl
  remove_past (x ∷ xs) zero p = absurd (omega arith)
  remove_past (x ∷ xs) (suc i) p =
      let past : length xs ≤ i = omega arith in
      ap (λ (ys : List X). x ∷ ys) (remove_past xs i past)

  pub length_remove_le : (xs : List X) (i : ℕ) → length (remove xs i) ≤ length xs
  length_remove_le xs i = omega (arith, length-append (take i xs) (drop (suc i) xs), length-take i xs, length-drop (suc i) xs)

  pub All-remove : (P : X → Type 0) (xs : List X) (i : ℕ) → All P xs → All P (remove xs i)
  All-remove P xs i h = All-append P (take i xs) (drop (suc i) xs) (All-take P i xs h) (All-drop P (suc i) xs h)

  -- where there is no item, the list ends before
  pub slice_get-none : (xs : List X) (i : ℕ) → slice_get xs i ≡ None → length xs ≤ i
  slice_get-none [] i e = omega arith
  slice_get-none (x ∷ xs) zero e = cc
  slice_get-none (x ∷ xs) (suc i) e =
      let past : length xs ≤ i = slice_get-none xs i e in
      omega arith

  -- a list turned by one has its last item first
  turned : (ys : List X) (y : X) → drop (length (ys ++ y ∷ []) - 1) (ys ++ y ∷ []) ++ take (length (ys ++ y ∷ []) - 1) (ys ++ y ∷ []) ≡ y ∷ ys
  turned ys y =
      let count : length ys ≡ length (ys ++ y ∷ []) - 1 = omega (arith, length_push ys y) in
      ap (λ (zs : List X). zs ++ take (length (ys ++ y ∷ []) - 1) (ys ++ y ∷ [])) (drop_at ys (y ∷ []) (length (ys ++ y ∷ []) - 1) count)
      ∙ ap (λ (zs : List X). y ∷ zs) (take_at ys (y ∷ []) (length (ys ++ y ∷ []) - 1) count)

  -- what comes behind the first item once the places up to i were turned by one
  pub turned_rest : (xs zs : List X) (i : ℕ) → i < length xs → zs ≡ drop (length (take (i + 1) xs) - 1) (take (i + 1) xs) ++ take (length (take (i + 1) xs) - 1) (take (i + 1) xs) → drop 1 (zs ++ drop (i + 1) xs) ≡ remove xs i
  turned_rest [] zs i p e = absurd (omega arith)
  turned_rest (x ∷ xs) zs i p e =
      let first : zs ≡ get_or (x ∷ xs) i x ∷ take i (x ∷ xs) =
      e
      ∙ ap (λ (ts : List X). drop (length ts - 1) ts ++ take (length ts - 1) ts) (take_more (x ∷ xs) i x p)
      ∙ turned (take i (x ∷ xs)) (get_or (x ∷ xs) i x) in
      ap (λ (ts : List X). drop 1 (ts ++ drop (i + 1) (x ∷ xs))) first
      ∙ ap (λ (n : ℕ). take i (x ∷ xs) ++ drop n (x ∷ xs)) (add-one i)
