-- Fronts and rests of lists: what is taken and dropped where a list grows, one item more, and what holds of each item there.
use Rattle.std.proofs.Common.{◌≡◌, ℕ, zero, suc, ◌+◌, ◌-◌, ◌<◌, ◌≤◌, Bool, true, false, cond, min, List, [], ◌∷◌, ◌++◌, length, map, take, drop, get_or, filter, All, Option, Some, None, slice_get, filter_map, refl, sym, ap, ◌∙◌, subst, arith, append_assoc, append-nil, length-drop, length-take, get_or-drop, get_or-take, sum_by, count_by, ◌⊎◌, inl, inr, ⊎_elim}
use Rattle.std.specs.List.{cons_option}
use Rattle.std.proofs.lemmas.List.{take_more}
use Rattle.std.proofs.lemmas.List.Elements.{All-head, All-tail, All-weaker}
use Rattle.std.proofs.lemmas.List.Sums.{sum_by-cons, sum_by-append}
use Rattle.std.proofs.lemmas.Option.{none-some, slice_get_within, get_or_from_slice_get}
use Rattle.lists.proofs.Lists.{filter_map-none, slice_get-at}

-- ---- one item more

-- what is taken, and the next
pub take_next : {X : Type 0} (xs : List X) (k : ℕ) (x : X) → slice_get xs k ≡ Some x → take (k + 1) xs ≡ take k xs ++ x ∷ []
take_next xs k x e =
    take_more xs k x (slice_get_within xs k x e) ∙ ap (λ y. take k xs ++ y ∷ []) (get_or_from_slice_get xs k x x e)

-- the first item of what comes after a front
pub slice_get_after : {X : Type 0} (xs ys : List X) (y : X) (zs : List X) → zs ≡ xs ++ y ∷ ys → slice_get zs (length xs) ≡ Some y
slice_get_after xs ys y zs e = ap (λ us. slice_get us (length xs)) e ∙ slice_get-at xs (y ∷ ys)

pub append_option : {X : Type 0} (xs : List X) (o : Option X) (ys : List X) → (xs ++ cons_option o []) ++ ys ≡ xs ++ cons_option o ys
append_option xs None ys = ap (λ us. us ++ ys) (append-nil xs)
append_option xs (Some x) ys = append_assoc xs (x ∷ []) ys

-- ---- what holds of each item

-- the items of a part that begins later and ends earlier
pub All-part : {X : Type 0} (P : X → Type 0) (a c k : ℕ) (xs : List X) → a ≤ c → All P (drop a xs) → All P (drop c (take k xs))
All-part P a c k xs le all i d within =
    subst P (sym same) (all (c - a + i) d (omega (arith, length-drop a xs, length-drop c (take k xs), length-take k xs)))
  where
    place : a + (c - a + i) ≡ c + i
    place = omega arith

    same : get_or (drop c (take k xs)) i d ≡ get_or (drop a xs) (c - a + i) d
    same =
        get_or-drop c (take k xs) i d
        ∙ (get_or-take k xs (c + i) d (omega (arith, length-drop c (take k xs), length-take k xs))
        ∙ (ap (λ n. get_or xs n d) (sym place) ∙ sym (get_or-drop a xs (c - a + i) d)))

-- ---- counts

pub count_by-append : {X : Type 0} (p : X → Bool) (xs ys : List X) → count_by p (xs ++ ys) ≡ count_by p xs + count_by p ys
count_by-append p xs ys = sum_by-append (λ x. cond (p x) 1 0) xs ys

pub count_by-cons : {X : Type 0} (p : X → Bool) (x : X) (xs : List X) → count_by p (x ∷ xs) ≡ cond (p x) 1 0 + count_by p xs
count_by-cons p x xs = sum_by-cons (λ y. cond (p y) 1 0) x xs

pub count_by-push : {X : Type 0} (p : X → Bool) (xs : List X) (x : X) → count_by p (xs ++ x ∷ []) ≡ count_by p xs + cond (p x) 1 0
count_by-push p xs x = omega (arith, count_by-append p xs (x ∷ []), count_by-cons p x [])

-- a front has no more
pub count_by-front : {X : Type 0} (p : X → Bool) (xs ys zs : List X) → xs ++ ys ≡ zs → count_by p xs ≤ count_by p zs
count_by-front p xs ys zs e = omega (arith, count_by-append p xs ys, ap (count_by p) e)

-- ---- filter_map after filter_map

-- what h gives of the items that g gives
abbrev pub then : {Y Z : Type 0} → (Y → Option Z) → Option Y → Option Z
then h None = None
then h (Some y) = h y

pub filter_map_twice : {X Y Z : Type 0} (h : Y → Option Z) (g : X → Option Y) (xs : List X) → filter_map h (filter_map g xs) ≡ filter_map (λ x. then h (g x)) xs
filter_map_twice h g [] = refl
filter_map_twice {X} {Y} {Z} h g (x ∷ xs) = by_case (g x) (filter_map g xs) (filter_map_twice h g xs)
  where
    by_case : (o : Option Y) (ys : List Y) → filter_map h ys ≡ filter_map (λ y. then h (g y)) xs → filter_map h (cons_option o ys) ≡ cons_option (then h o) (filter_map (λ y. then h (g y)) xs)
    by_case None ys e = e
    by_case (Some y) ys e = ap (cons_option (h y)) e

-- an item that passes
abbrev pub passing : {Y : Type 0} → (Y → Bool) → Y → Option Y
passing p y = cond (p y) (Some y) None

-- of the items that g gives those that pass
pub filter-filter_map : {X Y : Type 0} (p : Y → Bool) (g : X → Option Y) (xs : List X) → filter p (filter_map g xs) ≡ filter_map (λ x. then (passing p) (g x)) xs
filter-filter_map p g [] = refl
filter-filter_map {X} {Y} p g (x ∷ xs) = by_case (g x) (filter_map g xs) (filter-filter_map p g xs)
  where
    by_test : (b : Bool) (y : Y) (ys zs : List Y) → ys ≡ zs → cond b (y ∷ ys) ys ≡ cons_option (cond b (Some y) None) zs
    by_test true y ys zs e = ap (λ us. y ∷ us) e
    by_test false y ys zs e = e

    by_case : (o : Option Y) (ys : List Y) → filter p ys ≡ filter_map (λ z. then (passing p) (g z)) xs
        → filter p (cons_option o ys) ≡ cons_option (then (passing p) o) (filter_map (λ z. then (passing p) (g z)) xs)
    by_case None ys e = e
    by_case (Some y) ys e = by_test (p y) y (filter p ys) (filter_map (λ z. then (passing p) (g z)) xs) e

-- where what is left out gives nothing
pub filter_map-filter : {X Y : Type 0} (g : X → Option Y) (p : X → Bool) (xs : List X) → ((x : X) → p x ≡ false → g x ≡ None) → filter_map g (filter p xs) ≡ filter_map g xs
filter_map-filter g p [] none = refl
filter_map-filter {X} {Y} g p (x ∷ xs) none = by_test (p x) refl (filter p xs) (filter_map-filter g p xs none)
  where
    by_test : (b : Bool) → p x ≡ b → (ys : List X) → filter_map g ys ≡ filter_map g xs → filter_map g (cond b (x ∷ ys) ys) ≡ cons_option (g x) (filter_map g xs)
    by_test true is ys e = ap (cons_option (g x)) e
    by_test false is ys e = e ∙ sym (ap (λ o. cons_option o (filter_map g xs)) (none x is))

-- where of each two items, one of each list, one gives nothing, one list gives nothing
pub filter_map_apart : {X Y : Type 0} (g : X → Option Y) (xs ys : List X) → All (λ x. All (λ y. (g x ≡ None) ⊎ (g y ≡ None)) ys) xs → (filter_map g xs ≡ []) ⊎ (filter_map g ys ≡ [])
filter_map_apart g [] ys all = inl refl
filter_map_apart {X} {Y} g (x ∷ xs) ys all =
    by_case (g x) refl (filter_map_apart g xs ys (All-tail (λ z. All (λ y. (g z ≡ None) ⊎ (g y ≡ None)) ys) x xs all))
  where
    by_case : (o : Option Y) → g x ≡ o → (filter_map g xs ≡ []) ⊎ (filter_map g ys ≡ []) → (cons_option (g x) (filter_map g xs) ≡ []) ⊎ (filter_map g ys ≡ [])
    by_case None is later = ⊎_elim (λ none. inl (ap (λ u. cons_option u (filter_map g xs)) is ∙ none)) (λ none. inr none) later
    by_case (Some z) is later =
        inr (filter_map-none g ys (All-weaker (λ y. (g x ≡ None) ⊎ (g y ≡ None)) (λ y. g y ≡ None)
        (λ y one. ⊎_elim (λ none. absurd (none-some z (sym none ∙ is))) (λ none. none) one) ys
        (All-head (λ u. All (λ y. (g u ≡ None) ⊎ (g y ≡ None)) ys) x xs all)))
