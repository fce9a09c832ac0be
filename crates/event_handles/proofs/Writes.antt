-- A list whose front is written item by item.
use Rattle.std.proofs.Common.{◌≡◌, ℕ, zero, suc, ◌<◌, ◌≤◌, List, [], ◌∷◌, ◌++◌, length, map, take, drop, set, get_or, ap, arith}

-- the front of ys is what f makes of the first items of xs, and one item more is written
pub front-set : {X Y : Type 0} (f : X → Y) (xs : List X) (ys : List Y) (i : ℕ) (x : X) → i < length xs → length xs ≤ length ys → x ≡ get_or xs i x
    → set (map f (take i xs) ++ drop i ys) i (f x) ≡ map f (take (suc i) xs) ++ drop (suc i) ys
front-set f [] ys i x there fits is = absurd (omega arith)
front-set f (w ∷ xs) [] i x there fits is = absurd (omega arith)
front-set f (w ∷ xs) (y ∷ ys) zero x there fits is = ap (λ z. f z ∷ ys) is
front-set f (w ∷ xs) (y ∷ ys) (suc i) x there fits is = ap (λ zs. f w ∷ zs) (front-set f xs ys i x (omega (arith, there)) (omega (arith, fits)) is)
