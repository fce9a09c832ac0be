-- Items are written to the front of a list, one after the other.
use Rattle.std.proofs.Common.{◌≡◌, ℕ, zero, suc, ◌+◌, ◌<◌, ◌≤◌, min, List, [], ◌∷◌, ◌++◌, length, take, drop, set, ap, sym, ◌∙◌, add-one, arith, length-drop}

-- the first i of the items are there, and these are those that are left
pub record HasFront {X : Type 0} (items before after rest : List X) (i : ℕ) : Type 0 where
  pub few : i ≤ length items
  pub written : after ≡ take i items ++ drop i before
  pub left : rest ≡ drop i items

write_next : {X : Type 0} (items before : List X) (i : ℕ) (x : X) (rest : List X) → x ∷ rest ≡ drop i items → i < length before
    → set (take i items ++ drop i before) i x ≡ take (suc i) items ++ drop (suc i) before
write_next [] before zero x rest is there = cc
write_next [] before (suc i) x rest is there = cc
write_next (y ∷ items) [] i x rest is there = absurd (omega arith)
write_next (y ∷ items) (b ∷ before) zero x rest is there = cc
write_next (y ∷ items) (b ∷ before) (suc i) x rest is there = ap (λ ys. y ∷ ys) (write_next items before i x rest is (omega (arith, there)))

drop_next : {X : Type 0} (items : List X) (i : ℕ) (x : X) (rest : List X) → x ∷ rest ≡ drop i items → rest ≡ drop (suc i) items
drop_next [] zero x rest is = cc
drop_next [] (suc i) x rest is = cc
drop_next (y ∷ items) zero x rest is = cc
drop_next (y ∷ items) (suc i) x rest is = drop_next items i x rest is

module _ {X : Type 0} (items before after rest : List X) (i : ℕ) (front : HasFront items before after rest i) (there : i < length before) where
  -- the next one is written
  pub front_more : (x : X) (more : List X) → rest ≡ x ∷ more → HasFront items before (set after i x) more (i + 1)
  front_more x more is =
      let here : x ∷ more ≡ drop i items = sym is ∙ front.left in
      record {
        few = omega (arith, length-drop i items, ap length here);
        written = rw add-one (ap (λ ys. set ys i x) front.written ∙ write_next items before i x more here there);
        left = rw add-one (drop_next items i x more here);
      }

  -- where nothing is left these are all
  pub front_whole : rest ≡ [] → i ≡ min (length before) (length items)
  front_whole is = omega (arith, front.few, length-drop i items, ap length (sym is ∙ front.left))
