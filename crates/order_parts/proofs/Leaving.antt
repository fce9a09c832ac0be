-- Places that are answered leave, from the oldest on.
use Rattle.std.proofs.Common.{◌≡◌, ℕ, zero, suc, ◌<◌, true, false, List, [], ◌∷◌, ap, arith, drop, length, refl, slice_get, ◌∙◌}
use Rattle.std.proofs.lemmas.Bool.{cond-false, cond-true}
use Rattle.std.proofs.lemmas.List.Sums.{take_while-cons}
use Rattle.evt_types.specs.Place.{Place}
use Rattle.order_parts.specs.Released.{answered_front, released_all, released_one, without_answered}
use Rattle.order_parts.specs.Reorder.{Reordering, is_done}
use Rattle.order_parts.specs.declared.history.Entry.{Entry}
use Rattle.order_parts.proofs.InTurn.{left_depth}

-- one more is answered
pub front_more : (n : ℕ) (xs : List Place) → is_done (slice_get xs n) ≡ true → length (answered_front (drop n xs)) ≡ suc (length (answered_front (drop (suc n) xs)))
front_more zero [] done = absurd cc
front_more zero (x ∷ xs) done = ap (λ (ys : List Place). length ys) (take_while-cons (λ (y : Place). y.answered) x xs ∙ cond-true x.answered (x ∷ answered_front xs) [] done)
front_more (suc n) [] done = absurd cc
front_more (suc n) (x ∷ xs) done = front_more n xs done

-- the next one isn't
pub front_end : (n : ℕ) (xs : List Place) → is_done (slice_get xs n) ≡ false → length (answered_front (drop n xs)) ≡ 0
front_end zero [] waits = refl
front_end zero (x ∷ xs) waits = ap (λ (ys : List Place). length ys) (take_while-cons (λ (y : Place). y.answered) x xs ∙ cond-false x.answered (x ∷ answered_front xs) [] waits)
front_end (suc n) [] waits = refl
front_end (suc n) (x ∷ xs) waits = front_end n xs waits

-- one that is answered is there
pub done_within : (n : ℕ) (xs : List Place) → is_done (slice_get xs n) ≡ true → n < length xs
done_within zero [] done = absurd cc
done_within zero (x ∷ xs) done = omega arith
done_within (suc n) [] done = absurd cc
done_within (suc n) (x ∷ xs) done = let within = done_within n xs done in omega (arith, within)

-- as many as there may be
pub released_depth : (ys : List Entry) (r : Reordering) → (released_all r ys).depth ≡ r.depth
released_depth [] r = refl
released_depth (y ∷ ys) r = released_depth ys (released_one r y)

pub answered_depth : (r : Reordering) → (without_answered r).depth ≡ r.depth
answered_depth r = left_depth (length (answered_front r.places)) r

pub row_depth : (ys : List Entry) (r : Reordering) → (without_answered (released_all r ys)).depth ≡ r.depth
row_depth ys r = answered_depth (released_all r ys) ∙ released_depth ys r
