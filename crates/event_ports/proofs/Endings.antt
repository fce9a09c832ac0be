-- What the finished stints of a lane left unanswered is what is unanswered at its end, once all seats are one.
use Rattle.std.proofs.Common.{◌≡◌, ℕ, ◌+◌, ◌==◌, ◌⊎◌, inl, inr, ⊎_elim, Bool, true, false, cond, List, [], ◌∷◌, ◌++◌, length, All, refl, sym, ap, ◌∙◌, subst, arith, append-nil, sum_by}
use Rattle.std.specs.List.{flat_map}
use Rattle.std.proofs.lemmas.Bool.{cases_Bool}
use Rattle.std.proofs.lemmas.List.{length-append, nil_from_length}
use Rattle.std.proofs.lemmas.List.Sums.{sum_by-cons}
use Rattle.std.proofs.lemmas.List.Elements.{All-head, All-tail}
use Rattle.lists.proofs.Lists.{eqb_same, eqb_other}
use mathlib.Core.List.{IsPrefix}
use mathlib.Core.Logic.{dite}
use native.Mathlib.Decide.{ℕ_discrete}
use Rattle.evt_types.specs.declared.event.Delivery.{Delivery}
use Rattle.lane_rings.specs.Ends.{unanswered}
use Rattle.lane_rings.specs.declared.far.Far.{Far}
use Rattle.lists.specs.Counts.{count}
use Rattle.flow_claims.specs.declared.seating.LaneLists.{LaneLists}
use Rattle.flow_claims.specs.declared.seating.Past.{Past}
use Rattle.flow_claims.specs.Ends.{IsEnd}
use Rattle.flow_claims.specs.Lists.{no_lists}
use Rattle.flow_claims.specs.Stints.{at_lane, gives_up, last_end, left_in, IsRecordFrom}
use Rattle.event_ports.specs.Holds.{left_by, left_past, stints_at}
use Rattle.event_ports.proofs.Unanswered.{given_back, surrendered}
use Rattle.event_ports.proofs.Entries.{none_left}

abbrev left_count : Past → ℕ
left_count p = length (left_by p)

one_left : (p : Past) (ps : List Past) (b : Bool) → length (flat_map left_by (cond b (p ∷ ps) ps)) ≡ cond b (left_count p) 0 + length (flat_map left_by ps)
one_left p ps true = length-append (left_by p) (flat_map left_by ps)
one_left p ps false = omega arith

-- what the lane's stints left, stint by stint
left_each : (lane : ℕ) (ps : List Past) → length (left_past lane ps) ≡ sum_by (at_lane lane left_count) ps
left_each lane [] = refl
left_each lane (p ∷ ps) =
    one_left p (stints_at lane ps) (p.lane == lane) ∙ ap (λ n. at_lane lane left_count p + n) (left_each lane ps) ∙ sym (sum_by-cons (at_lane lane left_count) p ps)

-- no stint surrendered the lane, and none left anything; or what all left is what is unanswered at the end
abbrev AtEnd : LaneLists → List Past → Type 0
AtEnd lists past = ((sum_by gives_up past ≡ 0) × (sum_by left_count past ≡ 0)) ⊎ (sum_by left_count past ≡ length (left_in (last_end lists past)))

-- of a lane's record at most the last stint surrendered the lane
last_left : (lane number : ℕ) (lists : LaneLists) (past : List Past) → IsRecordFrom lane number lists past → All (λ p. p.surrendered ≡ true → p.number + 1 ≡ number + length past) past → AtEnd lists past
last_left lane number lists [] recorded final = inl (refl, refl)
last_left lane number lists (p ∷ ps) recorded final = ⊎_elim gone (kept (last_left lane (number + 1) p.end ps recorded.4)) (cases_Bool p.surrendered)
  where
    Last : Past → Type 0
    Last q = q.surrendered ≡ true → q.number + 1 ≡ number + length (p ∷ ps)

    gone : p.surrendered ≡ true → AtEnd lists (p ∷ ps)
    gone e =
        let last : p.number + 1 ≡ number + length (p ∷ ps) = All-head Last p ps final e in
        let none : ps ≡ [] = none_left ps (omega (arith, last, recorded.1)) in
        let here : left_count p ≡ length (left_in p.end) = ap length (surrendered p e) in
        let At : List Past → Type 0 = λ qs. AtEnd lists (p ∷ qs) in
        subst At (sym none) (inr (omega (arith, sum_by-cons left_count p [], here)))

    kept : (All (λ q. q.surrendered ≡ true → q.number + 1 ≡ (number + 1) + length ps) ps → AtEnd p.end ps) → p.surrendered ≡ false → AtEnd lists (p ∷ ps)
    kept rest e =
        let here : left_count p ≡ 0 = ap length (given_back p e) in
        let not : gives_up p ≡ 0 = ap count e in
        let later : All (λ q. q.surrendered ≡ true → q.number + 1 ≡ (number + 1) + length ps) ps =
        λ k d lt is. omega (arith, All-tail Last p ps final k d lt is) in
        ⊎_elim (λ (none : (sum_by gives_up ps ≡ 0) × (sum_by left_count ps ≡ 0)).
        inl (omega (arith, sum_by-cons gives_up p ps, not, none.0), omega (arith, sum_by-cons left_count p ps, here, none.1)))
        (λ (some : sum_by left_count ps ≡ length (left_in (last_end p.end ps))).
        inr (omega (arith, sum_by-cons left_count p ps, here, some)))
        (rest later)

-- what the finished stints of a lane left unanswered is what is unanswered at its end
pub held : (lanes : List Far) (finished : List Past) (lane : ℕ) (far : Far) → IsEnd lanes finished lane far → length (left_past lane finished) ≡ length (unanswered far)
held lanes finished lane far is =
    left_each lane finished ∙ is.weighed left_count ∙
    ⊎_elim (λ (none : (sum_by gives_up is.past ≡ 0) × (sum_by left_count is.past ≡ 0)).
    none.1 ∙ sym (ap length (is.settled (is.weighed gives_up ∙ none.0))))
    (λ (some : sum_by left_count is.past ≡ length (left_in (last_end no_lists is.past))).
    some ∙ ap (λ l. length (left_in l)) (sym is.lists))
    (last_left lane 0 no_lists is.past is.recorded (λ k d lt gone. omega (arith, is.final k d lt gone)))

-- nothing, or first what the end has
abbrev NoneOr : List Delivery → List Delivery → Type 0
NoneOr u xs = (xs ≡ []) ⊎ IsPrefix u xs

add : (u xs ys : List Delivery) → (xs ≡ []) ⊎ (xs ≡ u) → NoneOr u ys → NoneOr u (xs ++ ys)
add u xs ys either rest =
    ⊎_elim (λ (none : xs ≡ []). subst (λ zs. NoneOr u (zs ++ ys)) (sym none) rest)
    (λ (is : xs ≡ u). inr (ys, ap (λ zs. zs ++ ys) (sym is)))
    either

left_of_one : (u : List Delivery) (p : Past) → (p.surrendered ≡ true → left_in p.end ≡ u) → (left_by p ≡ []) ⊎ (left_by p ≡ u)
left_of_one u p is = ⊎_elim (λ (gone : p.surrendered ≡ true). inr (surrendered p gone ∙ is gone)) (λ (kept : p.surrendered ≡ false). inl (given_back p kept)) (cases_Bool p.surrendered)

-- each stint by which the lane was surrendered ended with the end's lists
abbrev EndsWith : ℕ → List Delivery → Past → Type 0
EndsWith lane u p = p.lane ≡ lane → p.surrendered ≡ true → left_in p.end ≡ u

left_first : (lane : ℕ) (u : List Delivery) (ps : List Past) → All (EndsWith lane u) ps → NoneOr u (left_past lane ps)
left_first lane u [] all = inl refl
left_first lane u (p ∷ ps) all =
    let Left : Bool → Type 0 = λ b. NoneOr u (flat_map left_by (cond b (p ∷ stints_at lane ps) (stints_at lane ps))) in
    let rest : NoneOr u (left_past lane ps) = left_first lane u ps (All-tail (EndsWith lane u) p ps all) in
    dite (ℕ_discrete p.lane lane)
    (λ its. subst Left (sym (ap (λ n. n == lane) its ∙ eqb_same lane)) (add u (left_by p) (left_past lane ps) (left_of_one u p (All-head (EndsWith lane u) p ps all its)) rest))
    (λ other. subst Left (sym (eqb_other p.lane lane other)) rest)

pub left_is : (lanes : List Far) (finished : List Past) (lane : ℕ) (far : Far) → IsEnd lanes finished lane far → left_past lane finished ≡ unanswered far
left_is lanes finished lane far is =
    let u : List Delivery = unanswered far in
    let as_many : length (left_past lane finished) ≡ length u = held lanes finished lane far is in
    ⊎_elim (λ (none : left_past lane finished ≡ []). none ∙ sym (nil_from_length u (omega (arith, as_many, ap length none))))
    (λ (first : IsPrefix u (left_past lane finished)).
    sym first.1 ∙ (ap (λ xs. u ++ xs) (nil_from_length first.0 (omega (arith, as_many, ap length first.1, length-append u first.0))) ∙ append-nil u))
    (left_first lane u finished (λ k d lt its gone. sym (ap left_in (is.surrendered k d lt its gone))))
