-- What follows a point in lists that come one after the other.
use Rattle.std.proofs.Common.{◌≡◌, ℕ, zero, suc, ◌+◌, List, [], ◌∷◌, ◌++◌, drop, get_or, flat_map, slice_get, Some, None, refl, sym, ap, ◌∙◌, add-one}
use Rattle.std.proofs.lemmas.Option.{same_Some}
use Rattle.std.proofs.Math.Seq.{drop-nil}
use Rattle.event_handles.specs.Left.{lists_of}
use Rattle.event_handles.specs.Pulls.{rest_at, rest_of}
use Rattle.event_handles.specs.declared.event.CLeft.{CLeft}
use Rattle.event_handles.specs.declared.stopped.Stopped.{Stopped}

drop_read : {X : Type 0} (xs : List X) (k : ℕ) (x : X) → slice_get xs k ≡ Some x → drop k xs ≡ x ∷ drop (suc k) xs
drop_read [] k x is = cc
drop_read (y ∷ xs) zero x is = ap (λ z. z ∷ xs) (same_Some y x is)
drop_read (y ∷ xs) (suc k) x is = drop_read xs k x is

drop_past : {X : Type 0} (xs : List X) (k : ℕ) → slice_get xs k ≡ None → drop k xs ≡ []
drop_past [] k is = drop-nil k
drop_past (y ∷ xs) zero is = cc
drop_past (y ∷ xs) (suc k) is = drop_past xs k is

-- all lists from the i-th on are what follows its beginning
all_from : {X : Type 0} (xss : List (List X)) (i : ℕ) → flat_map (λ xs. xs) (drop i xss) ≡ rest_at xss i 0
all_from [] zero = refl
all_from [] (suc i) = refl
all_from (xs ∷ xss) zero = refl
all_from (xs ∷ xss) (suc i) = all_from xss i

-- where something stands there it comes first
pub rest_here : (s : Stopped) (x : CLeft) → Some x ≡ slice_get (get_or (lists_of s.report s.kinds) s.part []) s.handed → rest_of s ≡ x ∷ rest_of (record s { handed = s.handed + 1 })
rest_here s x is =
    let xss : List (List CLeft) = lists_of s.report s.kinds in
    rw add-one (ap (λ ys. ys ++ flat_map (λ xs. xs) (drop (suc s.part) xss)) (drop_read (get_or xss s.part []) s.handed x (sym is)))

-- where nothing does, the next list follows
pub rest_after : (s : Stopped) → None ≡ slice_get (get_or (lists_of s.report s.kinds) s.part []) s.handed → rest_of s ≡ rest_of (record s { part = s.part + 1; handed = 0 })
rest_after s is =
    let xss : List (List CLeft) = lists_of s.report s.kinds in
    rw add-one (ap (λ ys. ys ++ flat_map (λ xs. xs) (drop (suc s.part) xss)) (drop_past (get_or xss s.part []) s.handed (sym is)) ∙ all_from xss (suc s.part))
