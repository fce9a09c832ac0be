-- Lines of a text, each with its end.
use Rattle.std.proofs.Common.{◌≡◌, ◌≢◌, ℕ, ◌<◌, ◌≤◌, List, [], ◌∷◌, ◌++◌, length, get_or, take, refl, sym, ap, ◌∙◌, arith}
use Rattle.std.specs.List.{AllByRecursion}
use Rattle.std.proofs.lemmas.List.{append_cancel_right, get_or-take, length-take}
use Rattle.std.proofs.lemmas.List.Elements.{All-from_get_or, recursion_from_All}
use Rattle.log_reading.specs.Logs.{IsLine}

pub heads : (x y : ℕ) (xs ys : List ℕ) → x ∷ xs ≡ y ∷ ys → x ≡ y
heads x y xs ys e = cc

pub tails : (x y : ℕ) (xs ys : List ℕ) → x ∷ xs ≡ y ∷ ys → xs ≡ ys
tails x y xs ys e = cc

-- two lines that begin one text are one, and so is what stands behind them
pub lines_unique : (x y a b : List ℕ) → IsLine x → IsLine y → x ++ 10 ∷ a ≡ y ++ 10 ∷ b → (x ≡ y) × (a ≡ b)
lines_unique [] [] a b hx hy e = (refl, tails 10 10 a b e)
lines_unique [] (d ∷ y) a b hx hy e = absurd (hy.0 (sym (heads 10 d a (y ++ 10 ∷ b) e)))
lines_unique (c ∷ x) [] a b hx hy e = absurd (hx.0 (heads c 10 (x ++ 10 ∷ a) b e))
lines_unique (c ∷ x) (d ∷ y) a b hx hy e =
    let rest = lines_unique x y a b hx.1 hy.1 (tails c d (x ++ 10 ∷ a) (y ++ 10 ∷ b) e) in
    let one : c ≡ d = heads c d (x ++ 10 ∷ a) (y ++ 10 ∷ b) e in
    let same : x ≡ y = rest.0 in
    (rw (one, same) refl, rest.1)

-- no line ends in a line
pub no_end_inside : (x a : List ℕ) → IsLine (x ++ 10 ∷ a) → ⊥
no_end_inside [] a h = h.0 refl
no_end_inside (c ∷ x) a h = no_end_inside x a h.1

-- the front of a text that ends is the line that it is with its end
pub same-front : (line front text : List ℕ) (end : ℕ) → text ≡ front ++ end ∷ [] → end ≡ 10 → line ++ 10 ∷ [] ≡ text → front ≡ line
same-front line front text end whole ten same = sym (append_cancel_right line front (10 ∷ []) (same ∙ whole ∙ ap (λ x. front ++ x ∷ []) ten))

-- a front of a text without a line's end
pub line-from_front : (text : List ℕ) (n : ℕ) → n ≤ length text → ((i : ℕ) → i < n → get_or text i 0 ≢ 10) → IsLine (take n text)
line-from_front text n within none =
    recursion_from_All (λ b. b ≢ 10) (take n text) (All-from_get_or (λ b. b ≢ 10) (take n text) 0 (λ i lt.
    let near : i < n = omega (arith, length-take {A = ℕ}) in
    rw (get_or-take n text i 0 near) (none i near)))
