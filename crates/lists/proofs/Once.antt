-- Lists with no two equal items: an item stands at one place alone.
use Rattle.std.proofs.Common.{◌≡◌, ◌≢◌, ℕ, zero, suc, ◌+◌, ◌<◌, ◌≤◌, List, [], ◌∷◌, ◌++◌, length, map, All, AllPairs, Some, slice_get, ⊎_elim, sym, ap, ◌∙◌, arith}
use Rattle.std.specs.List.{range_with_len, flat_map}
use Rattle.std.proofs.lemmas.Bool.{cases_lt}
use Rattle.std.proofs.lemmas.List.Elements.{All-nil, All-head, All-tail, All-weaker, All-append}
use Rattle.std.proofs.lemmas.List.FromFn.{length-map-range_with_len}
use Rattle.std.proofs.lemmas.List.Kept.{AllPairs-cons}
use Rattle.std.proofs.lemmas.Option.{slice_get_within, get_or_from_slice_get}
use Rattle.lists.proofs.Ranges.{mapped_at}

-- no two items are equal
abbrev pub IsOnce : {X : Type 0} → List X → Type 0
IsOnce xs = AllPairs (λ x y. x ≢ y) xs

-- equal items stand at one place
pub once_place : {X : Type 0} (xs : List X) (x : X) (i j : ℕ) → IsOnce xs → slice_get xs i ≡ Some x → slice_get xs j ≡ Some x → i ≡ j
once_place {X} xs x i j once at_i at_j =
    ⊎_elim (λ lt. absurd (apart i j lt at_i at_j)) (λ le. ⊎_elim (λ lt. absurd (apart j i lt at_j at_i)) (λ other. omega arith) (cases_lt j i))
    (cases_lt i j)
  where
    apart : (a b : ℕ) → a < b → slice_get xs a ≡ Some x → slice_get xs b ≡ Some x → ⊥
    apart a b lt at_a at_b =
        once a b x lt (slice_get_within xs b x at_b) (get_or_from_slice_get xs a x x at_a ∙ sym (get_or_from_slice_get xs b x x at_b))

AllPairs-append : {X : Type 0} (R : X → X → Type 0) (xs ys : List X) → AllPairs R xs → AllPairs R ys → All (λ x. All (R x) ys) xs
    → AllPairs R (xs ++ ys)
AllPairs-append R [] ys first second across = second
AllPairs-append R (x ∷ xs) ys first second across =
    AllPairs-cons R x (xs ++ ys)
    (All-append (R x) xs ys (λ k d lt. first 0 (suc k) d (omega arith) (omega arith)) (All-head (λ z. All (R z) ys) x xs across))
    (AllPairs-append R xs ys (λ i j d lt within. first (suc i) (suc j) d (omega arith) (omega arith)) second
    (All-tail (λ z. All (R z) ys) x xs across))

-- what a function that gives no item twice gives of the numbers below a bound
pub once_mapped : {Y : Type 0} (f : ℕ → Y) (n : ℕ) → ((i j : ℕ) → f i ≡ f j → i ≡ j) → IsOnce (map f (range_with_len 0 n))
once_mapped f n one i j d lt within e =
    let long : length (map f (range_with_len 0 n)) ≡ n = length-map-range_with_len f 0 n in
    let same : i ≡ j = one i j (sym (mapped_at f n i d (omega arith)) ∙ (e ∙ mapped_at f n j d (omega arith))) in
    absurd (omega arith)

-- of lists, one for each number below a bound, that tell their number by a key
pub once_flat : {Y : Type 0} (key : Y → ℕ) (f : ℕ → List Y) (n : ℕ) → ((k : ℕ) → IsOnce (f k)) → ((k : ℕ) → All (λ y. key y ≡ k) (f k))
    → IsOnce (flat_map f (range_with_len 0 n))
once_flat {Y} key f n once keys = from 0 n
  where
    past : (a m : ℕ) → All (λ y. a ≤ key y) (flat_map f (range_with_len a m))
    past a zero = All-nil (λ y. a ≤ key y)
    past a (suc m) =
        All-append (λ y. a ≤ key y) (f a) (flat_map f (range_with_len (a + 1) m))
        (All-weaker (λ y. key y ≡ a) (λ y. a ≤ key y) (λ y e. omega arith) (f a) (keys a))
        (All-weaker (λ y. a + 1 ≤ key y) (λ y. a ≤ key y) (λ y le. omega arith) (flat_map f (range_with_len (a + 1) m)) (past (a + 1) m))

    from : (a m : ℕ) → IsOnce (flat_map f (range_with_len a m))
    from a zero = λ i j d lt within. absurd (omega arith)
    from a (suc m) =
        let later : List Y = flat_map f (range_with_len (a + 1) m) in
        AllPairs-append (λ x y. x ≢ y) (f a) later (once a) (from (a + 1) m)
        (All-weaker (λ x. key x ≡ a) (λ x. All (λ y. x ≢ y) later)
        (λ x is. All-weaker (λ y. a + 1 ≤ key y) (λ y. x ≢ y) (λ y le e. let same : key x ≡ key y = ap key e in absurd (omega arith)) later
        (past (a + 1) m)) (f a) (keys a))
