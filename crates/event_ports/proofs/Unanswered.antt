-- What finished stints left unanswered of a lane, and which of them surrendered it.
use Rattle.std.proofs.Common.{◌≡◌, ◌≢◌, ℕ, ◌==◌, Bool, true, false, cond, List, [], ◌∷◌, ◌++◌, length, filter, refl, sym, ap, ◌∙◌, subst, arith}
use Rattle.std.specs.List.{flat_map}
use Rattle.std.proofs.lemmas.List.Elements.{filter-append}
use Rattle.std.proofs.lemmas.Grind.{flat_map-append}
use mathlib.Core.Logic.{dite}
use Rattle.lists.proofs.Lists.{filter-push_false}
use native.Mathlib.Decide.{ℕ_discrete}
use Rattle.evt_types.specs.declared.event.Delivery.{Delivery}
use Rattle.flow_claims.specs.declared.seating.Past.{Past}
use Rattle.flow_claims.specs.Stints.{left_in}
use Rattle.event_ports.specs.Holds.{stints_at, surrendered_past, left_by, left_past}
use Rattle.event_ports.proofs.Entries.{more_stints, other_stints, past_more}

-- that of the stints of two seats
pub left_append : (j : ℕ) (xs ys : List Past) → left_past j (xs ++ ys) ≡ left_past j xs ++ left_past j ys
left_append j xs ys = ap (flat_map left_by) (filter-append (λ (p : Past). p.lane == j) xs ys) ∙ flat_map-append left_by (stints_at j xs) (stints_at j ys)

pub given_back : (p : Past) → p.surrendered ≡ false → left_by p ≡ []
given_back p e = ap {B = List Delivery} (λ b. cond b (left_in p.end) []) e

pub surrendered : (p : Past) → p.surrendered ≡ true → left_by p ≡ left_in p.end
surrendered p e = ap {B = List Delivery} (λ b. cond b (left_in p.end) []) e

-- one stint more
module _ (ps qs : List Past) (p : Past) (lane : ℕ) (is : qs ≡ ps ++ p ∷ []) (its : p.lane ≡ lane) where
  pub left_here : left_past lane qs ≡ left_past lane ps ++ left_by p
  left_here = ap (left_past lane) is ∙ past_more left_by lane ps p its

  pub left_other : (j : ℕ) → j ≢ lane → left_past j qs ≡ left_past j ps
  left_other j ne = ap (left_past j) is ∙ ap (flat_map left_by) (other_stints ps p lane j its ne)

-- those that surrendered the lane
module _ (ps qs : List Past) (p : Past) (lane : ℕ) (is : qs ≡ ps ++ p ∷ []) (its : p.lane ≡ lane) where
  pub others_surrendered : (j : ℕ) → j ≢ lane → surrendered_past j qs ≡ surrendered_past j ps
  others_surrendered j ne = ap (filter (λ (x : Past). x.surrendered)) (ap (stints_at j) is ∙ other_stints ps p lane j its ne)

  pub none_surrendered : p.surrendered ≡ false → (j : ℕ) → surrendered_past j qs ≡ surrendered_past j ps
  none_surrendered not j =
      let At : ℕ → Type 0 = λ i. surrendered_past i qs ≡ surrendered_past i ps in
      dite (ℕ_discrete j lane)
      (λ e.
      subst At (sym e)
      (ap (filter (λ (x : Past). x.surrendered)) (ap (stints_at lane) is ∙ more_stints ps p lane its) ∙ filter-push_false (λ (x : Past). x.surrendered) (stints_at lane ps) p not))
      (others_surrendered j)

-- where none surrendered the lane, nothing of it was left
one_more : (p : Past) (ps qs : List Past) (b : Bool) → p.surrendered ≡ b → cond b (p ∷ qs) qs ≡ [] → (qs ≡ [] → flat_map left_by ps ≡ []) → left_by p ++ flat_map left_by ps ≡ []
one_more p ps qs true e none rest = absurd (omega (arith, ap length none))
one_more p ps qs false e none rest = ap (λ xs. xs ++ flat_map left_by ps) (given_back p e) ∙ rest none

none_left_by : (ps : List Past) → filter (λ p. p.surrendered) ps ≡ [] → flat_map left_by ps ≡ []
none_left_by [] none = refl
none_left_by (p ∷ ps) none = one_more p ps (filter (λ (x : Past). x.surrendered) ps) p.surrendered refl none (none_left_by ps)

pub nothing_left : (j : ℕ) (ps : List Past) → surrendered_past j ps ≡ [] → left_past j ps ≡ []
nothing_left j ps none = none_left_by (stints_at j ps) none
