-- Lists with an item for each number below a bound.
use Rattle.std.proofs.Common.{◌≡◌, ◌≢◌, ℕ, zero, suc, ◌+◌, ◌<◌, Bool, true, false, cond, List, [], ◌∷◌, ◌++◌, map, set, get_or, ⊎_elim, refl, sym, ap, ◌∙◌, subst, arith}
use Rattle.std.specs.List.{range_with_len, filter, flat_map}
use Rattle.std.proofs.lemmas.Bool.{cases_eq}
use Rattle.std.proofs.lemmas.List.{append-nil}
use Rattle.std.proofs.lemmas.List.Elements.{filter-append}
use Rattle.std.proofs.lemmas.Grind.{flat_map-append}
use Rattle.std.proofs.lemmas.List.{length-set, get_or-set_same, get_or-set_other}
use Rattle.std.proofs.lemmas.List.FromFn.{length-map-range_with_len, get_or-map-range_with_len, fill_by_all}

-- what stands at a place
pub mapped_at : {Y : Type 0} (f : ℕ → Y) (n i : ℕ) (d : Y) → i < n → get_or (map f (range_with_len 0 n)) i d ≡ f i
mapped_at f n i d h = get_or-map-range_with_len f 0 n i i d h (omega arith)

-- two functions that agree below the bound
pub mapped_same : {Y : Type 0} (f g : ℕ → Y) (n : ℕ) → ((k : ℕ) → k < n → g k ≡ f k) → map g (range_with_len 0 n) ≡ map f (range_with_len 0 n)
mapped_same f g zero same = refl
mapped_same f g (suc n) same = fill_by_all f (map g (range_with_len 0 (suc n))) (suc n) (g 0) (length-map-range_with_len g 0 (suc n)) (λ k h. mapped_at g (suc n) k (g 0) h ∙ same k h)

-- two functions that differ at one place alone
pub mapped_changed : {Y : Type 0} (f g : ℕ → Y) (n i : ℕ) (y : Y) → i < n → g i ≡ y → ((k : ℕ) → k ≢ i → g k ≡ f k) → map g (range_with_len 0 n) ≡ set (map f (range_with_len 0 n)) i y
mapped_changed f g n i y h here other =
    sym (fill_by_all g (set (map f (range_with_len 0 n)) i y) n y (length-set (map f (range_with_len 0 n)) i y ∙ length-map-range_with_len f 0 n) at)
  where
    at : (k : ℕ) → k < n → get_or (set (map f (range_with_len 0 n)) i y) k y ≡ g k
    at k l =
        ⊎_elim
        (λ same. ap (λ m. get_or (set (map f (range_with_len 0 n)) i y) m y) same ∙ (get_or-set_same (map f (range_with_len 0 n)) i y y (subst (λ m. i < m) (sym (length-map-range_with_len f 0 n)) h) ∙ (sym here ∙ ap g (sym same))))
        (λ differs. get_or-set_other (map f (range_with_len 0 n)) i k y y differs ∙ (mapped_at f n k y l ∙ sym (other k differs)))
        (cases_eq k i)

-- ---- one number more

range_from_more : (a n : ℕ) → range_with_len a (suc n) ≡ range_with_len a n ++ (a + n) ∷ []
range_from_more a zero =
    let last : a ≡ a + 0 = omega arith in
    ap (λ k. k ∷ []) last
range_from_more a (suc n) =
    let last : a + 1 + n ≡ a + suc n = omega arith in
    ap (λ ks. a ∷ ks) (range_from_more (a + 1) n ∙ ap (λ k. range_with_len (a + 1) n ++ k ∷ []) last)

pub range_more : (n : ℕ) → range_with_len 0 (n + 1) ≡ range_with_len 0 n ++ n ∷ []
range_more n =
    let next : n + 1 ≡ suc n = omega arith in
    let last : 0 + n ≡ n = omega arith in
    ap (λ k. range_with_len 0 k) next ∙ (range_from_more 0 n ∙ ap (λ k. range_with_len 0 n ++ k ∷ []) last)

pub filter_range_more : (p : ℕ → Bool) (n : ℕ) → filter p (range_with_len 0 (n + 1)) ≡ filter p (range_with_len 0 n) ++ cond (p n) (n ∷ []) []
filter_range_more p n = ap (filter p) (range_more n) ∙ filter-append p (range_with_len 0 n) (n ∷ [])

pub flat_map_range_more : {Y : Type 0} (f : ℕ → List Y) (n : ℕ) → flat_map f (range_with_len 0 (n + 1)) ≡ flat_map f (range_with_len 0 n) ++ f n
flat_map_range_more f n =
    ap (flat_map f) (range_more n) ∙ (flat_map-append f (range_with_len 0 n) (n ∷ []) ∙ ap (λ ys. flat_map f (range_with_len 0 n) ++ ys) (append-nil (f n)))
