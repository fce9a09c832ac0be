-- The last stint of a lane's record, and what the stints of ports left of a lane that at most one of them surrendered.
use Rattle.std.proofs.Common.{◌≡◌, ◌≢◌, ℕ, zero, suc, ◌+◌, ◌==◌, ⊎_elim, Bool, true, false, cond, List, [], ◌∷◌, ◌++◌, length, All, Some, refl, sym, ap, ◌∙◌, subst, arith}
use Rattle.std.specs.Prelude.{slice_get}
use Rattle.std.specs.List.{flat_map}
use Rattle.std.proofs.lemmas.Bool.{cases_Bool}
use Rattle.std.proofs.lemmas.List.{length-append}
use Rattle.std.proofs.lemmas.List.Elements.{All-head, All-tail}
use Rattle.std.proofs.lemmas.Option.{get_or_from_slice_get, same_Some, slice_get_within}
use mathlib.Core.Logic.{dite}
use native.Mathlib.Decide.{ℕ_discrete}
use Rattle.lists.proofs.Lists.{eqb_same, eqb_other}
use Rattle.lists.specs.Lists.{has}
use Rattle.flow_claims.specs.declared.seating.LaneLists.{LaneLists}
use Rattle.flow_claims.specs.declared.seating.Past.{Past}
use Rattle.flow_claims.specs.Stints.{last_end, IsFinal}
use Rattle.event_ports.specs.Holds.{left_by, left_past, stints_at, AreLinked}
use Rattle.event_ports.proofs.Unanswered.{given_back}

-- ---- the last one

-- a list that isn't empty has a last item
pub last_of : {X : Type 0} (x : X) (xs : List X) → (before : List X) × (last : X) × (x ∷ xs ≡ before ++ last ∷ [])
last_of x [] = ([], x, refl)
last_of x (y ∷ ys) =
    let rest = last_of y ys in
    (x ∷ rest.0, rest.1, ap (λ zs. x ∷ zs) rest.2)

at_end : {X : Type 0} (before : List X) (last : X) (k : ℕ) → k ≡ length before → slice_get (before ++ last ∷ []) k ≡ Some last
at_end [] last k is = ap (slice_get (last ∷ [])) is
at_end (x ∷ before) last zero is = absurd (omega (arith, is))
at_end (x ∷ before) last (suc k) is = at_end before last k (omega (arith, is))

pub last_there : {X : Type 0} (xs before : List X) (last : X) → xs ≡ before ++ last ∷ [] → slice_get xs (length before) ≡ Some last
last_there xs before last is = ap (λ ys. slice_get ys (length before)) is ∙ at_end before last (length before) refl

pub last_end_is : (lists : LaneLists) (before : List Past) (last : Past) → last_end lists (before ++ last ∷ []) ≡ last.end
last_end_is lists [] last = refl
last_end_is lists (p ∷ before) last = last_end_is p.end before last

-- a stint of the record that surrendered the lane is the last one
pub only_last : (past before : List Past) (last x : Past) → past ≡ before ++ last ∷ [] → IsFinal past → slice_get past x.number ≡ Some x → x.surrendered ≡ true → x ≡ last
only_last past before last x is final at gone =
    let Final : Past → Type 0 = λ p. p.surrendered ≡ true → p.number + 1 ≡ length past in
    let number : x.number + 1 ≡ length past = subst Final (get_or_from_slice_get past x.number x x at) (final x.number x (slice_get_within past x.number x at)) gone in
    let long : x.number ≡ length before = omega (arith, number, ap length is, length-append before (last ∷ [])) in
    same_Some x last (sym at ∙ (ap (λ ps. slice_get ps x.number) is ∙ at_end before last x.number long))

-- ---- what ports' stints left

-- a stint of the lane that surrendered it is this port's
abbrev pub IsBy : ℕ → ℕ → Past → Type 0
IsBy lane port p = p.lane ≡ lane → p.surrendered ≡ true → p.port ≡ port

-- a port other than the one that surrendered the lane left nothing of it
pub others_left : (lane by port : ℕ) (links : List ℕ) (ps : List Past) → AreLinked port links ps → port ≢ by → All (IsBy lane by) ps → left_past lane ps ≡ []
others_left lane by port links [] its other all = refl
others_left lane by port links (p ∷ ps) its other all =
    let Its : Past → Type 0 = λ q. (q.port ≡ port) × (has q.lane links ≡ true) in
    let Left : Bool → Type 0 = λ b. flat_map left_by (cond b (p ∷ stints_at lane ps) (stints_at lane ps)) ≡ [] in
    let rest : left_past lane ps ≡ [] = others_left lane by port links ps (All-tail Its p ps its) other (All-tail (IsBy lane by) p ps all) in
    dite (ℕ_discrete p.lane lane)
    (λ here.
    let none : left_by p ≡ [] =
    ⊎_elim (λ (gone : p.surrendered ≡ true). absurd (other (sym (All-head Its p ps its).0 ∙ All-head (IsBy lane by) p ps all here gone))) (λ (kept : p.surrendered ≡ false). given_back p kept) (cases_Bool p.surrendered) in
    subst Left (sym (ap (λ n. n == lane) here ∙ eqb_same lane)) (ap (λ xs. xs ++ left_past lane ps) none ∙ rest))
    (λ away. subst Left (sym (eqb_other p.lane lane away)) rest)
