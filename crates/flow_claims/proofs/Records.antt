-- The record of a lane: one stint more, its numbers, and its sums.
use Rattle.std.proofs.Common.{◌≡◌, ◌≢◌, ℕ, zero, suc, ◌+◌, ◌<◌, ◌≤◌, Bool, true, false, cond, eqb, ◌==◌, nat_lt, List, [], ◌∷◌, ◌++◌, length, drop, slice_get, Some, All, Contains, refl, sym, ap, ◌∙◌, arith, eq-eqb, ne_eqb, ltb-true, ltb-false, append-nil, append_assoc, sum_by}
use Rattle.std.proofs.lemmas.List.Elements.{All-nil, All-cons, All-head, All-tail}
use Rattle.std.proofs.lemmas.Option.{none-some, same_Some}
use Rattle.evt_types.specs.declared.event.Delivery.{Delivery}
use Rattle.evt_types.specs.declared.event.Reply.{Reply}
use Rattle.lists.specs.Counts.{count}
use Rattle.std.proofs.lemmas.List.Sums.{sum_by-cons, sum_by-append}
use Rattle.flow_claims.specs.declared.seating.LaneLists.{LaneLists}
use Rattle.flow_claims.specs.declared.seating.Past.{Past}
use Rattle.flow_claims.specs.Lists.{GoesOn}
use Rattle.flow_claims.specs.Stints.{last_end, IsDone, IsRecordFrom, at_lane, gives_up, below, left_in, received_in, answered_in, received_in_all, answered_in_all}
use native.Mathlib.Decide.{dec_le}
use Rattle.flow_claims.proofs.Choices.{by_number}

pub record_more : (lane n : ℕ) (l : LaneLists) (ps : List Past) (p : Past) → IsRecordFrom lane n l ps
    → p.lane ≡ lane → p.number ≡ n + length ps → p.start ≡ last_end l ps → GoesOn p.start p.end → IsRecordFrom lane n l (ps ++ p ∷ [])
record_more lane n l [] p r a b c d = (a, omega (arith, b), c, d, tt)
record_more lane n l (q ∷ qs) p r a b c d = (r.0, r.1, r.2, r.3, record_more lane (n + 1) q.end qs p r.4 a (omega (arith, b)) c d)

pub last_more : (l : LaneLists) (ps : List Past) (p : Past) → last_end l (ps ++ p ∷ []) ≡ p.end
last_more l [] p = refl
last_more l (q ∷ qs) p = last_more q.end qs p

pub record_lanes : (lane n : ℕ) (l : LaneLists) (ps : List Past) → IsRecordFrom lane n l ps → All (λ p. p.lane ≡ lane) ps
record_lanes lane n l [] r = All-nil (λ p. p.lane ≡ lane)
record_lanes lane n l (p ∷ ps) r = All-cons (λ q. q.lane ≡ lane) p ps r.0 (record_lanes lane (n + 1) p.end ps r.4)

-- one number more
pub below_step : (k n : ℕ) → below k n + count (eqb n k) ≡ below k (n + 1)
below_step k n =
    by_number n k (λ t. below k n + count t ≡ below k (n + 1))
    (λ e. omega (arith, not_below k n (omega (arith, e)), is_below k (n + 1) (omega (arith, e))))
    (λ ne. further (nat_lt k n) refl ne)
  where
    is_below : (a b : ℕ) → a < b → below a b ≡ 1
    is_below a b h = grind (arith, h)

    not_below : (a b : ℕ) → b ≤ a → below a b ≡ 0
    not_below a b h = grind (arith, h)

    further : (t : Bool) → nat_lt k n ≡ t → n ≢ k → below k n + count false ≡ below k (n + 1)
    further true e ne = omega (arith, ap count e, is_below k (n + 1) (omega (arith, ltb-true k n e)))
    further false e ne = omega (arith, ap count e, not_below k (n + 1) (omega (arith, ltb-false k n e, ne)))

-- each number from n on, as far as the record goes, stands there once
pub record_numbers : (lane n : ℕ) (l : LaneLists) (ps : List Past) → IsRecordFrom lane n l ps
    → (k : ℕ) → below k n + sum_by (λ p. count (p.number == k)) ps ≡ below k (n + length ps)
record_numbers lane n l [] r k = omega (arith, ap (below k) (omega-zero n))
  where
    omega-zero : (m : ℕ) → m ≡ m + 0
    omega-zero m = omega arith
record_numbers lane n l (p ∷ ps) r k =
    omega (arith, sum_by-cons (λ (x : Past). count (x.number == k)) p ps, below_step k n, ap (λ x. count (eqb x k)) r.1, record_numbers lane (n + 1) p.end ps r.4 k, ap (below k) (one_more n (length ps)))
  where
    one_more : (a b : ℕ) → a + 1 + b ≡ a + suc b
    one_more a b = omega arith

-- the weight of a list is that of a first part and that of the rest
sum_of_rest : {A : Type 0} (f : A → ℕ) (a b : List A) → b ≡ a ++ drop (length a) b → sum_by f (drop (length a) b) + sum_by f a ≡ sum_by f b
sum_of_rest f a b e = omega (arith, ap (sum_by f) e, sum_by-append f a (drop (length a) b))

-- what was received in the stints of a record, after the lists with which it begins, makes those with which it ends
pub sums_received : (lane n : ℕ) (l : LaneLists) (ps : List Past) → IsRecordFrom lane n l ps
    → (f : Delivery → ℕ) → sum_by (λ p. sum_by f (received_in p)) ps + sum_by f l.received ≡ sum_by f (last_end l ps).received
sums_received lane n l [] r f = omega arith
sums_received lane n l (p ∷ ps) r f =
    omega (arith, sum_by-cons (λ x. sum_by f (received_in x)) p ps, sum_of_rest f p.start.received p.end.received r.3.0, ap (λ (x : LaneLists). sum_by f x.received) r.2, sums_received lane (n + 1) p.end ps r.4 f)

pub sums_answered : (lane n : ℕ) (l : LaneLists) (ps : List Past) → IsRecordFrom lane n l ps
    → (f : Reply → ℕ) → sum_by (λ p. sum_by f (answered_in p)) ps + sum_by f l.answered ≡ sum_by f (last_end l ps).answered
sums_answered lane n l [] r f = omega arith
sums_answered lane n l (p ∷ ps) r f =
    omega (arith, sum_by-cons (λ x. sum_by f (answered_in x)) p ps, sum_of_rest f p.start.answered p.end.answered r.3.1, ap (λ (x : LaneLists). sum_by f x.answered) r.2, sums_answered lane (n + 1) p.end ps r.4 f)

-- the weight of stints that are all of the lane, and of stints none of which is
pub all_at_lane : (lane : ℕ) (f : Past → ℕ) (ps : List Past) → All (λ p. p.lane ≡ lane) ps → sum_by (at_lane lane f) ps ≡ sum_by f ps
all_at_lane lane f [] all = refl
all_at_lane lane f (p ∷ ps) all =
    omega (arith, sum_by-cons (at_lane lane f) p ps, sum_by-cons f p ps, ap (λ t. cond t (f p) 0) (eq-eqb p.lane lane (All-head (λ q. q.lane ≡ lane) p ps all)), all_at_lane lane f ps (All-tail (λ q. q.lane ≡ lane) p ps all))

pub none_at_lane : (lane j : ℕ) (f : Past → ℕ) (ps : List Past) → j ≢ lane → All (λ p. p.lane ≡ lane) ps → sum_by (at_lane j f) ps ≡ 0
none_at_lane lane j f [] ne all = refl
none_at_lane lane j f (p ∷ ps) ne all =
    omega (arith, sum_by-cons (at_lane j f) p ps, ap (λ t. cond t (f p) 0) (ne_eqb p.lane j (λ e. ne (sym e ∙ All-head (λ q. q.lane ≡ lane) p ps all))), none_at_lane lane j f ps ne (All-tail (λ q. q.lane ≡ lane) p ps all))

-- the lists with which a record ends are those with which it begins, and then the stints' pieces
pub pieces_received : (lane n : ℕ) (l : LaneLists) (ps : List Past) → IsRecordFrom lane n l ps → (last_end l ps).received ≡ l.received ++ received_in_all ps
pieces_received lane n l [] r = sym (append-nil l.received)
pieces_received lane n l (p ∷ ps) r =
    pieces_received lane (n + 1) p.end ps r.4 ∙ ap (λ x. x ++ received_in_all ps) r.3.0 ∙ append_assoc p.start.received (received_in p) (received_in_all ps)
    ∙ ap (λ (x : LaneLists). x.received ++ (received_in p ++ received_in_all ps)) r.2

pub pieces_answered : (lane n : ℕ) (l : LaneLists) (ps : List Past) → IsRecordFrom lane n l ps → (last_end l ps).answered ≡ l.answered ++ answered_in_all ps
pieces_answered lane n l [] r = sym (append-nil l.answered)
pieces_answered lane n l (p ∷ ps) r =
    pieces_answered lane (n + 1) p.end ps r.4 ∙ ap (λ x. x ++ answered_in_all ps) r.3.1 ∙ append_assoc p.start.answered (answered_in p) (answered_in_all ps)
    ∙ ap (λ (x : LaneLists). x.answered ++ (answered_in p ++ answered_in_all ps)) r.2

-- the last stint's end is the record's
pub last_is : (l : LaneLists) (ps : List Past) (i : ℕ) (p : Past) → slice_get ps i ≡ Some p → i + 1 ≡ length ps → last_end l ps ≡ p.end
last_is l [] i p e last = absurd (none-some p e)
last_is l (q ∷ []) zero p e last = ap (λ (x : Past). x.end) (same_Some q p e)
last_is l (q ∷ []) (suc i) p e last = absurd (none-some p e)
last_is l (q ∷ r ∷ ps) zero p e last = absurd (omega (arith, last))
last_is l (q ∷ r ∷ ps) (suc i) p e last = last_is q.end (r ∷ ps) i p e (omega (arith, last))

-- where all stints gave the lane back, nothing is left at the end
pub all_settled : (l : LaneLists) (ps : List Past) → left_in l ≡ [] → All IsDone ps → sum_by gives_up ps ≡ 0 → left_in (last_end l ps) ≡ []
all_settled l [] e done none = e
all_settled l (p ∷ ps) e done none =
    all_settled p.end ps ((All-head IsDone p ps done).given_back (by p.surrendered refl)) (All-tail IsDone p ps done) (omega (arith, none, sum_by-cons gives_up p ps))
  where
    by : (t : Bool) → p.surrendered ≡ t → p.surrendered ≡ false
    by true d = absurd (omega (arith, none, sum_by-cons gives_up p ps, ap count d))
    by false d = d

-- a stint of the lane that weighs something is there
pub some_stint : (f : Past → ℕ) (lane : ℕ) (ps : List Past) → 0 < sum_by (at_lane lane f) ps → (p : Past) × Contains ps p × (p.lane ≡ lane) × (0 < f p)
some_stint f lane [] some = absurd (omega (arith, some))
some_stint f lane (p ∷ ps) some =
    by_number p.lane lane (λ t. 0 < cond t (f p) 0 + sum_by (at_lane lane f) ps → (q : Past) × Contains (p ∷ ps) q × (q.lane ≡ lane) × (0 < f q))
    (λ same d. by (dec_le 1 (f p)) same d (λ more. some_stint f lane ps more)) (λ ne d. further (some_stint f lane ps (omega (arith, d))))
    (omega (arith, some, sum_by-cons (at_lane lane f) p ps))
  where
    further : (q : Past) × Contains ps q × (q.lane ≡ lane) × (0 < f q) → (q : Past) × Contains (p ∷ ps) q × (q.lane ≡ lane) × (0 < f q)
    further at = (at.0, (suc at.1.0, omega (arith, at.1.1), at.1.2), at.2, at.3)

    by : Dec (1 ≤ f p) → p.lane ≡ lane → 0 < f p + sum_by (at_lane lane f) ps
        → (0 < sum_by (at_lane lane f) ps → (q : Past) × Contains ps q × (q.lane ≡ lane) × (0 < f q))
        → (q : Past) × Contains (p ∷ ps) q × (q.lane ≡ lane) × (0 < f q)
    by (yes here) same d rest = (p, (0, omega arith, refl), same, omega (arith, here))
    by (no none) same d rest = further (rest (omega (arith, d, none)))

-- the first stint of a record begins with its lists, and each later one with those with which the one before it ended
pub record_start : (lane n : ℕ) (l : LaneLists) (ps : List Past) → IsRecordFrom lane n l ps → (p : Past) → slice_get ps 0 ≡ Some p → p.start ≡ l
record_start lane n l [] r p e = absurd (none-some p e)
record_start lane n l (q ∷ qs) r p e = ap (λ (x : Past). x.start) (sym (same_Some q p e)) ∙ r.2

pub record_next : (lane n : ℕ) (l : LaneLists) (ps : List Past) → IsRecordFrom lane n l ps
    → (i : ℕ) (p q : Past) → slice_get ps i ≡ Some p → slice_get ps (suc i) ≡ Some q → q.start ≡ p.end
record_next lane n l [] r i p q e d = absurd (none-some p e)
record_next lane n l (x ∷ xs) r zero p q e d = record_start lane (n + 1) x.end xs r.4 q d ∙ ap (λ (y : Past). y.end) (same_Some x p e)
record_next lane n l (x ∷ xs) r (suc i) p q e d = record_next lane (n + 1) x.end xs r.4 i p q e d

pub record_grows : (lane n : ℕ) (l : LaneLists) (ps : List Past) → IsRecordFrom lane n l ps → All (λ p. GoesOn p.start p.end) ps
record_grows lane n l [] r = All-nil (λ p. GoesOn p.start p.end)
record_grows lane n l (p ∷ ps) r = All-cons (λ q. GoesOn q.start q.end) p ps r.3 (record_grows lane (n + 1) p.end ps r.4)
