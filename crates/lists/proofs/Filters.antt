-- What a filter keeps.
use Rattle.std.proofs.Common.{◌≡◌, Bool, true, false, cond, List, [], ◌∷◌, get_or, filter, filter_map, All, Contains, Option, Some, None, refl, ap}
use Rattle.std.specs.List.{cons_option}
use Rattle.std.proofs.lemmas.List.{get_or_default}
use Rattle.std.proofs.lemmas.List.Elements.{All-nil, All-cons, All-filter, All-contains}

passes_more : {X : Type 0} (p : X → Bool) (x : X) (xs : List X) (b : Bool) → p x ≡ b → All (λ y. p y ≡ true) xs → All (λ y. p y ≡ true) (cond b (x ∷ xs) xs)
passes_more p x xs true h all = All-cons (λ y. p y ≡ true) x xs h all
passes_more p x xs false h all = all

all_pass : {X : Type 0} (p : X → Bool) (xs : List X) → All (λ y. p y ≡ true) (filter p xs)
all_pass p [] = All-nil (λ y. p y ≡ true)
all_pass p (x ∷ xs) = passes_more p x (filter p xs) (p x) refl (all_pass p xs)

-- what is kept passes
pub passes : {X : Type 0} (p : X → Bool) (xs : List X) (x : X) → Contains (filter p xs) x → p x ≡ true
passes p xs x kept = All-contains (λ y. p y ≡ true) (filter p xs) x (all_pass p xs) kept

-- what is kept was there
pub was_there : {X : Type 0} (p : X → Bool) (xs : List X) (x : X) → Contains (filter p xs) x → Contains xs x
was_there p xs x kept = All-contains (λ y. Contains xs y) (filter p xs) x (All-filter p (λ y. Contains xs y) xs (λ k d h. (k, h, get_or_default xs k (get_or xs k d) d h))) kept

-- ---- what a partial function gives of a tested list

-- what h gives, where the item passes
abbrev pub tested_by : {X Y : Type 0} → (X → Bool) → (X → Option Y) → X → Option Y
tested_by p h x = cond (p x) (h x) None

pub filter_map-filter : {X Y : Type 0} (h : X → Option Y) (p : X → Bool) (xs : List X) → filter_map h (filter p xs) ≡ filter_map (tested_by p h) xs
filter_map-filter h p [] = refl
filter_map-filter h p (x ∷ xs) = by_test (p x) (filter_map-filter h p xs)
  where
    by_test : (b : Bool) → filter_map h (filter p xs) ≡ filter_map (tested_by p h) xs
        → filter_map h (cond b (x ∷ filter p xs) (filter p xs)) ≡ cons_option (cond b (h x) None) (filter_map (tested_by p h) xs)
    by_test true rest = ap (cons_option (h x)) rest
    by_test false rest = rest

-- what h gives, where that passes
abbrev pub passing : {Y : Type 0} → (Y → Bool) → Option Y → Option Y
passing q None = None
passing q (Some y) = cond (q y) (Some y) None

pub filter-filter_map : {X Y : Type 0} (q : Y → Bool) (h : X → Option Y) (xs : List X) → filter q (filter_map h xs) ≡ filter_map (λ x. passing q (h x)) xs
filter-filter_map q h [] = refl
filter-filter_map {Y = Y} q h (x ∷ xs) = by_item (h x) (filter-filter_map q h xs)
  where
    by_test : (b : Bool) (y : Y) → filter q (filter_map h xs) ≡ filter_map (λ z. passing q (h z)) xs
        → cond b (y ∷ filter q (filter_map h xs)) (filter q (filter_map h xs)) ≡ cons_option (cond b (Some y) None) (filter_map (λ z. passing q (h z)) xs)
    by_test true y rest = ap (λ ys. y ∷ ys) rest
    by_test false y rest = rest

    by_item : (o : Option Y) → filter q (filter_map h xs) ≡ filter_map (λ z. passing q (h z)) xs
        → filter q (cons_option o (filter_map h xs)) ≡ cons_option (passing q o) (filter_map (λ z. passing q (h z)) xs)
    by_item None rest = rest
    by_item (Some y) rest = by_test (q y) y rest
