-- Items come out of a ring into a batch.
use Rattle.std.proofs.Common.{◌≡◌, ℕ, List, ◌++◌, length, take, drop, arith, ap, sym, ◌∙◌, append_assoc}
use Rattle.std.proofs.Math.Seq.{take-append_seam}
use mathlib.Core.List.{IsPrefix}
use Rattle.lane_rings.proofs.Handing.{row-empty, row-filled}
use Rattle.lane_rings.proofs.Singles.{one-put, none-there, none-behind}

module _ {T : Type 0} where
  -- the places of a row, all of which were written
  pub written_back : (n : ℕ) (xs ys : List T) → length xs ≡ length ys → n ≡ length ys → take n (xs ++ drop (length xs) ys) ≡ xs
  written_back n xs ys long all =
      let same : n ≡ length xs = omega arith in
      ap (λ (k : ℕ). take k (xs ++ drop (length xs) ys)) same ∙ take-append_seam xs (drop (length xs) ys)

  -- what was seen first is the beginning of what came of it
  pub prefix-joined : (xs ys zs : List T) → IsPrefix xs ys → IsPrefix ys zs → IsPrefix xs zs
  prefix-joined xs ys zs p q = (p.0 ++ q.0, sym (append_assoc xs p.0 q.0) ∙ (ap (λ (ws : List T). ws ++ q.0) p.1 ∙ q.1))

  -- the same behind a row
  pub prefix-behind : (ws xs ys : List T) → IsPrefix xs ys → IsPrefix (ws ++ xs) (ws ++ ys)
  prefix-behind ws xs ys p = (p.0, append_assoc ws xs p.0 ∙ ap (λ zs. ws ++ zs) p.1)

pub ruleset of_looks = (row-empty, row-filled, one-put, none-there, none-behind)
