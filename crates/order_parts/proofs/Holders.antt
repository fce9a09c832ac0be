-- Who has a slot, by its pin.
use Rattle.std.proofs.Common.{◌≡◌, ℕ, ◌<◌, Bool, true, false, cond, ◌==◌, None, Some, ◌⊎◌, inl, inr, refl, sym, ◌∙◌, arith, eq-eqb, eqb-true}
use Rattle.std.proofs.lemmas.Bool.{or_cases, or_left, or_right, false≢true}
use Rattle.std.proofs.lemmas.Option.{same_Some}
use Rattle.order_parts.specs.Pins.{Pin, holder_of, may_pin}

-- where a lane may have an event more, it has all that there are
pub may_parts : (l : ℕ) (x : Pin) → may_pin x l ≡ true → (x.count ≡ 0) ⊎ (x.lane ≡ l)
may_parts l x may = by_case (or_cases (x.count == 0) (x.lane == l) may)
  where
    by_case : ((x.count == 0) ≡ true) ⊎ ((x.lane == l) ≡ true) → (x.count ≡ 0) ⊎ (x.lane ≡ l)
    by_case (inl e) = inl (eqb-true x.count 0 e)
    by_case (inr e) = inr (eqb-true x.lane l e)

-- where there are any, they stand on a lane that may have one more
pub stands_on : (l : ℕ) (x : Pin) → may_pin x l ≡ true → 0 < x.count → x.lane ≡ l
stands_on l x may some = by_case (may_parts l x may)
  where
    by_case : (x.count ≡ 0) ⊎ (x.lane ≡ l) → x.lane ≡ l
    by_case (inl none) = absurd (omega (arith, none, some))
    by_case (inr e) = e

none_of : {X : Type 0} (b : Bool) (x : X) → cond b None (Some x) ≡ None → b ≡ true
none_of true x e = refl
none_of false x e = absurd cc

some_of : {X : Type 0} (b : Bool) (x y : X) → cond b None (Some x) ≡ Some y → (b ≡ false) × (x ≡ y)
some_of true x y e = absurd cc
some_of false x y e = (refl, same_Some x y e)

-- a slot that no lane has may go to any
pub free_may : (x : Pin) (l : ℕ) → holder_of x ≡ None → may_pin x l ≡ true
free_may x l e = or_left (x.count == 0) (x.lane == l) (none_of (x.count == 0) x.lane e)

-- one that a lane has may go to that lane
pub holder_may : (x : Pin) (l : ℕ) → holder_of x ≡ Some l → may_pin x l ≡ true
holder_may x l e = or_right (x.count == 0) (x.lane == l) (eq-eqb x.lane l (some_of (x.count == 0) x.lane l e).1)

-- and to no other
pub may_is_holder : (x : Pin) (h l : ℕ) → holder_of x ≡ Some h → may_pin x l ≡ true → l ≡ h
may_is_holder x h l e may = by_case (or_cases (x.count == 0) (x.lane == l) may)
  where
    has : ((x.count == 0) ≡ false) × (x.lane ≡ h)
    has = some_of (x.count == 0) x.lane h e

    by_case : ((x.count == 0) ≡ true) ⊎ ((x.lane == l) ≡ true) → l ≡ h
    by_case (inl zero) = absurd (false≢true (sym has.0 ∙ zero))
    by_case (inr same) = sym (eqb-true x.lane l same) ∙ has.1
