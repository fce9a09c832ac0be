-- The claims of a dequeue, one lane after the other.
use Rattle.std.proofs.Common.{◌≡◌, ◌∙◌, ℕ, ◌≤◌, List, [], ◌∷◌, ◌++◌, inl, inr, length, take, drop, refl, sym, ap, subst, arith, append-nil, append_assoc}
use Rattle.std.proofs.lemmas.List.{length-append, take-append-drop, take-take, take_all}
use Rattle.flow_claims.specs.declared.seating.Seating.{Seating}
use Rattle.flow_claims.specs.Answers.{AsksNone, AsksOnce}
use Rattle.event_ports.specs.Claiming.{ArePicked, ClaimsEach}

none_picked : (links : List ℕ) → ArePicked links []
none_picked [] = refl
none_picked (l ∷ links) = inl (none_picked links)

picked_more : (links more xs ys : List ℕ) → ArePicked links xs → ArePicked more ys → ArePicked (links ++ more) (xs ++ ys)
picked_more [] more xs ys none next = subst (ArePicked more) (sym (ap (λ r. r ++ ys) none)) next
picked_more (l ∷ links) more xs ys (inl left) next = inl (picked_more links more xs ys left next)
picked_more (l ∷ links) more xs ys (inr (rest, is, left)) next = inr (rest ++ ys, ap (λ r. r ++ ys) is, picked_more links more rest ys left next)

-- no lane was claimed
pub claims_none : (links : List ℕ) (v w : Seating) → AsksNone v w → ClaimsEach links v w
claims_none links v w none = record {
  claimed = [];
  picked = none_picked links;
  loads = none.loads ∙ sym (append-nil v.loads);
  reads = omega (arith, none.reads);
}

-- nothing was done
pub asks_same : (v w : Seating) → w ≡ v → AsksNone v w
asks_same v w same = record { loads = ap (λ x. x.loads) same; reads = ap (λ x. x.reads) same }

pub asks_then : (v m w : Seating) → AsksNone v m → AsksNone m w → AsksNone v w
asks_then v m w first then = record { loads = then.loads ∙ first.loads; reads = then.reads ∙ first.reads }

-- one lane was
pub claims_one : (lane : ℕ) (v w : Seating) → AsksOnce lane v w → ClaimsEach (lane ∷ []) v w
claims_one lane v w once = record {
  claimed = lane ∷ [];
  picked = inr ([], refl, refl);
  loads = once.loads;
  reads = omega (arith, once.reads);
}

-- some of more lanes were
pub claims_more : (links more all : List ℕ) (v m w : Seating) → all ≡ links ++ more → ClaimsEach links v m → ClaimsEach more m w → ClaimsEach all v w
claims_more links more all v m w is first then = record {
  claimed = first.claimed ++ then.claimed;
  picked = subst (λ ls. ArePicked ls (first.claimed ++ then.claimed)) (sym is) (picked_more links more first.claimed then.claimed first.picked then.picked);
  loads = then.loads ∙ ap (λ r. r ++ then.claimed) first.loads ∙ append_assoc v.loads first.claimed then.claimed;
  reads = omega (arith, first.reads, then.reads, length-append first.claimed then.claimed);
}

-- and none before or after
pub claims_after : (links : List ℕ) (v m w : Seating) → AsksNone v m → ClaimsEach links m w → ClaimsEach links v w
claims_after links v m w none then = claims_more [] links links v m w refl (claims_none [] v m none) then

pub claims_before : (links : List ℕ) (v m w : Seating) → ClaimsEach links v m → AsksNone m w → ClaimsEach links v w
claims_before links v m w first none = claims_more links [] links v m w (sym (append-nil links)) first (claims_none [] m w none)

-- from the links up to a later position, where those between were passed over
pub claims_past : (links : List ℕ) (from to : ℕ) (v w : Seating) → from ≤ to → ClaimsEach (take from links) v w → ClaimsEach (take to links) v w
claims_past links from to v w le each =
    let past : List ℕ = drop from (take to links) in
    let read : take to links ≡ take from links ++ past = sym (take-append-drop from (take to links)) ∙ ap (λ r. r ++ past) (take-take from to links le) in
    claims_more (take from links) past (take to links) v w w read each (claims_none past w w (asks_same w w refl))

pub claims_all : (links : List ℕ) (from : ℕ) (v w : Seating) → from ≤ length links → ClaimsEach (take from links) v w → ClaimsEach links v w
claims_all links from v w le each =
    let To : List ℕ → Type 0 = λ ls. ClaimsEach ls v w in
    subst To (take_all (length links) links (omega arith)) (claims_past links from (length links) v w le each)
