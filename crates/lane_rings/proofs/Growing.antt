-- A row grows behind what it has.
use Rattle.std.proofs.Common.{◌≡◌, ℕ, ◌+◌, ◌≤◌, List, ◌++◌, length, take, drop, arith, ap, sym, ◌∙◌, length-take-le, take-append-drop}
use Rattle.std.proofs.Math.Seq.{take-take}
use Rattle.std.proofs.lemmas.List.{drop-take}

module _ {T : Type 0} (n m : ℕ) (xs ys items : List T) (front : take n ys ≡ take n xs) (shown : take n xs ≡ items) (within : n ≤ length xs) where
  count : length items ≡ n
  count = sym (ap length shown) ∙ length-take-le n xs within

  -- what comes is what was written there
  pub row_behind : drop (length items) (take (n + m) ys) ≡ take m (drop n ys)
  row_behind = ap (λ k. drop k (take (n + m) ys)) count ∙ drop-take n m ys

  -- and all of it is what was there, and what comes
  pub row_grown : take (n + m) ys ≡ items ++ drop (length items) (take (n + m) ys)
  row_grown =
      sym (take-append-drop (length items) (take (n + m) ys))
      ∙ ap (λ zs. zs ++ drop (length items) (take (n + m) ys))
      (ap (λ k. take k (take (n + m) ys)) count ∙ (take-take n (n + m) ys (omega arith) ∙ (front ∙ shown)))
