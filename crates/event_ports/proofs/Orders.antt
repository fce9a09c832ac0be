-- What is held, lane by lane and in order: the oldest leaves with its answer, and what is received comes last.
use Rattle.std.proofs.Common.{◌≡◌, ◌≢◌, ℕ, ◌≤◌, Bool, true, false, cond, List, [], ◌∷◌, ◌++◌, length, map, drop, Option, Some, None, refl, sym, ap, ◌∙◌, subst, arith, append-nil, eq-eqb, ne_eqb}
use Rattle.std.proofs.lemmas.List.{drop-map, map-append, length-map}
use Rattle.std.proofs.lemmas.List.Elements.{filter-append}
use Rattle.std.proofs.lemmas.List.Sums.{length-filter, count_by-le-length}
use Rattle.std.proofs.lemmas.Option.{none-some, same_Some}
use mathlib.Core.Logic.{dite}
use native.Mathlib.Decide.{ℕ_discrete}
use Rattle.evt_types.specs.Event.{pair_of}
use Rattle.evt_types.specs.declared.event.Delivery.{Delivery}
use Rattle.event_ports.specs.declared.lane.Lane.{Lane}
use Rattle.event_ports.specs.declared.lane.Lane.TheVariants.{Own, Flow}
use Rattle.event_ports.specs.declared.lane.Holding.{Holding}
use Rattle.event_ports.specs.Lanes.{same_lane, holding_of, pair_in, held_of, first_lane}

-- the flow lane of a lane, to tell lanes apart
flow_of : Lane → Option ℕ
flow_of Own = None
flow_of (Flow j) = Some j

pub own_flow : (j : ℕ) → Flow j ≢ Own
unfolding flow_of
own_flow j e = none-some j (sym (ap flow_of e))

pub flow_is : (i j : ℕ) → Flow i ≡ Flow j → i ≡ j
unfolding flow_of
flow_is i j e = same_Some i j (ap flow_of e)

-- a decision by whether two lanes are the same
pub by_lane : (l m : Lane) (F : Bool → Type 0) → (l ≡ m → F true) → (l ≢ m → F false) → F (same_lane l m)
by_lane Own Own F same other = same refl
by_lane Own (Flow j) F same other = other (λ e. own_flow j (sym e))
by_lane (Flow i) Own F same other = other (λ e. own_flow i e)
by_lane (Flow i) (Flow j) F same other =
    dite (ℕ_discrete i j) (λ e. subst F (sym (eq-eqb i j e)) (same (ap Flow e))) (λ ne. subst F (sym (ne_eqb i j ne)) (other (λ e. ne (flow_is i j e))))

pub lane_same : (l m : Lane) → l ≡ m → same_lane l m ≡ true
lane_same l m e = by_lane l m (λ b. b ≡ true) (λ h. refl) (λ ne. absurd (ne e))

pub each_lane : (P : Lane → Type 0) → P Own → ((j : ℕ) → P (Flow j)) → (l : Lane) → P l
each_lane P own flow Own = own
each_lane P own flow (Flow j) = flow j

-- what is noted of each lane is what is unanswered of it
abbrev pub Notes : List Holding → (Lane → List Delivery) → Type 0
Notes xs open_at = (l : Lane) → map pair_in (held_of l xs) ≡ map pair_of (open_at l)

-- the oldest is answered
noted : (x : Holding) (xs : List Holding) (lane : Lane) (before after : Lane → List Delivery) → x.lane ≡ lane → after lane ≡ drop 1 (before lane)
    → ((l : Lane) → l ≢ lane → after l ≡ before l) → Notes (x ∷ xs) before → Notes xs after
noted x xs lane before after is here others notes l =
    by_lane x.lane l (λ t. map pair_in (cond t (x ∷ held_of l xs) (held_of l xs)) ≡ map pair_of (before l) → map pair_in (held_of l xs) ≡ map pair_of (after l))
    (λ e h.
    let At : Lane → Type 0 = λ m. after m ≡ drop 1 (before m) in
    let gone : after l ≡ drop 1 (before l) = subst At (sym is ∙ e) here in
    ap (drop 1) h ∙ drop-map pair_of 1 (before l) ∙ ap (map pair_of) (sym gone))
    (λ ne h. h ∙ ap (map pair_of) (sym (others l (λ e. ne (is ∙ sym e))))) (notes l)

pub answered_first : (xs : List Holding) (lane : Lane) (before after : Lane → List Delivery) → first_lane xs ≡ Some lane → after lane ≡ drop 1 (before lane)
    → ((l : Lane) → l ≢ lane → after l ≡ before l) → Notes xs before → Notes (drop 1 xs) after
answered_first [] lane before after first here others notes = absurd (none-some lane first)
answered_first (x ∷ xs) lane before after first here others notes = noted x xs lane before after (same_Some x.lane lane first) here others notes

-- what is noted of deliveries from a lane, lane by lane
noted_here : (lane l : Lane) (ds : List Delivery) → lane ≡ l → held_of l (map (holding_of lane) ds) ≡ map (holding_of lane) ds
noted_here lane l [] e = refl
noted_here lane l (d ∷ ds) e =
    let rest : List Holding = held_of l (map (holding_of lane) ds) in
    by_lane lane l (λ t. cond t (holding_of lane d ∷ rest) rest ≡ holding_of lane d ∷ map (holding_of lane) ds)
    (λ _. ap (λ (r : List Holding). holding_of lane d ∷ r) (noted_here lane l ds e)) (λ ne. absurd (ne e))

pub noted_elsewhere : (lane l : Lane) (ds : List Delivery) → lane ≢ l → held_of l (map (holding_of lane) ds) ≡ []
noted_elsewhere lane l [] ne = refl
noted_elsewhere lane l (d ∷ ds) ne =
    let rest : List Holding = held_of l (map (holding_of lane) ds) in
    by_lane lane l (λ t. cond t (holding_of lane d ∷ rest) rest ≡ []) (λ e. absurd (ne e)) (λ _. noted_elsewhere lane l ds ne)

pairs_noted : (lane : Lane) (ds : List Delivery) → map pair_in (map (holding_of lane) ds) ≡ map pair_of ds
pairs_noted lane [] = refl
pairs_noted lane (d ∷ ds) = ap (λ (r : List (ℕ × ℕ)). pair_of d ∷ r) (pairs_noted lane ds)

-- more are received
pub received_last : (xs : List Holding) (lane : Lane) (ds : List Delivery) (before after : Lane → List Delivery) → after lane ≡ before lane ++ ds
    → ((l : Lane) → l ≢ lane → after l ≡ before l) → Notes xs before → Notes (xs ++ map (holding_of lane) ds) after
received_last xs lane ds before after here others notes l =
    let ys : List Holding = map (holding_of lane) ds in
    let p : Holding → Bool = λ y. same_lane y.lane l in
    let both : map pair_in (held_of l (xs ++ ys)) ≡ map pair_of (before l) ++ map pair_in (held_of l ys) =
    ap (map pair_in) (filter-append p xs ys) ∙ map-append pair_in (held_of l xs) (held_of l ys) ∙ ap (λ r. r ++ map pair_in (held_of l ys)) (notes l) in
    by_lane lane l (λ _. map pair_in (held_of l (xs ++ ys)) ≡ map pair_of (after l))
    (λ e.
    let At : Lane → Type 0 = λ m. after m ≡ before m ++ ds in
    both ∙ ap (λ r. map pair_of (before l) ++ r) (ap (map pair_in) (noted_here lane l ds e) ∙ pairs_noted lane ds)
    ∙ sym (map-append pair_of (before l) ds) ∙ ap (map pair_of) (sym (subst At e here)))
    (λ ne.
    both ∙ ap (λ r. map pair_of (before l) ++ map pair_in r) (noted_elsewhere lane l ds ne) ∙ append-nil (map pair_of (before l))
    ∙ ap (map pair_of) (sym (others l (λ e. ne (sym e)))))

-- the oldest one's lane has something unanswered
pub first_open : (xs : List Holding) (lane : Lane) (open_at : Lane → List Delivery) → first_lane xs ≡ Some lane → Notes xs open_at → open_at lane ≢ []
first_open [] lane open_at first notes none = absurd (none-some lane first)
first_open (x ∷ xs) lane open_at first notes none =
    by_lane x.lane lane (λ t. map pair_in (cond t (x ∷ held_of lane xs) (held_of lane xs)) ≡ map pair_of (open_at lane) → ⊥)
    (λ e h. absurd (omega (arith, ap length h, ap length (ap (map pair_of) none)))) (λ ne h. ne (same_Some x.lane lane first)) (notes lane)

-- no more of a lane is unanswered than is held in all
pub open_within : (xs : List Holding) (lane : Lane) (open_at : Lane → List Delivery) → Notes xs open_at → length (open_at lane) ≤ length xs
open_within xs lane open_at notes =
    omega (
      arith,
      ap length (notes lane),
      length-map (held_of lane xs) pair_in,
      length-map (open_at lane) pair_of,
      length-filter (λ (x : Holding). same_lane x.lane lane) xs,
      count_by-le-length (λ (x : Holding). same_lane x.lane lane) xs,
    )

-- where something is held, there is an oldest
pub some_first : (xs : List Holding) (lane : Lane) → first_lane xs ≡ Some lane → xs ≢ []
some_first xs lane first none = none-some lane (sym (ap first_lane none) ∙ first)
