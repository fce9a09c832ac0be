-- All that is held is of the own lane or of a flow lane that is there.
use Rattle.std.proofs.Common.{◌≡◌, ℕ, suc, ◌+◌, ◌≤◌, ◌==◌, Bool, true, false, cond, List, [], ◌∷◌, length, map, None, refl, sym, ap, arith, sum_by, eq-eqb, ne_eqb}
use Rattle.std.specs.List.{range_with_len}
use Rattle.std.proofs.lemmas.List.{length-map}
use mathlib.Core.Logic.{dite}
use native.Mathlib.Decide.{dec_le}
use Rattle.lists.proofs.Sums.{sum_of_none, sum_changed}
use Rattle.lists.specs.Counts.{count}
use Rattle.evt_types.specs.Event.{pair_of}
use Rattle.lane_rings.specs.declared.far.Far.{Far}
use Rattle.event_ports.specs.declared.lane.Holding.{Holding}
use Rattle.event_ports.specs.declared.lane.Lane.{Lane}
use Rattle.event_ports.specs.declared.lane.Lane.TheVariants.{Own, Flow}
use Rattle.event_ports.specs.Holds.{Hands, held_now, entry_at}
use Rattle.event_ports.specs.Lanes.{AreOf, AreOrdered, held_of, pair_in, same_lane}
use Rattle.event_ports.proofs.Submitted.{IsThere}
use Rattle.event_ports.proofs.Orders.{lane_same}
use Rattle.event_ports.proofs.Entries.{none_left, past_entries}
use Rattle.event_ports.proofs.Totals.{sum_split}

one_or_none : (x : Holding) (xs : List Holding) (b : Bool) → length (cond b (x ∷ xs) xs) ≡ count b + length xs
one_or_none x xs true = omega arith
one_or_none x xs false = omega arith

-- one more counts at its own lane
one_held : (l : Lane) (x : Holding) (xs : List Holding) → length (held_of l (x ∷ xs)) ≡ count (same_lane x.lane l) + length (held_of l xs)
one_held l x xs = one_or_none x (held_of l xs) (same_lane x.lane l)

-- and at that once
one_lane : (n : ℕ) (l : Lane) → IsThere n l → count (same_lane l Own) + sum_by (λ j. count (same_lane l (Flow j))) (range_with_len 0 n) ≡ 1
one_lane n Own there = omega (arith, sum_of_none (λ (j : ℕ). 0) (range_with_len 0 n) (λ k d lt. refl))
one_lane n (Flow i) there =
    omega (
      arith,
      sum_of_none (λ (j : ℕ). 0) (range_with_len 0 n) (λ k d lt. refl),
      sum_changed (λ j. count (i == j)) (λ j. 0) n i 0 1 there (ap {B = ℕ} (λ b. count b + 0) (eq-eqb i i refl)) (λ j ne. ap count (ne_eqb i j (λ e. ne (sym e)))),
    )

there : (n : ℕ) (x : Holding) (xs : List Holding) → ((j : ℕ) → n ≤ j → held_of (Flow j) (x ∷ xs) ≡ []) → (l : Lane) → x.lane ≡ l → IsThere n l
there n x xs none Own e = tt
there n x xs none (Flow i) e =
    dite (dec_le (suc i) n) (λ lt. lt)
    (λ le. absurd (omega (arith, ap length (none i (omega (arith, le))), one_held (Flow i) x xs, ap count (lane_same x.lane (Flow i) e))))

-- where nothing is held of a lane that isn't there
pub by_lanes : (n : ℕ) (xs : List Holding) → ((j : ℕ) → n ≤ j → held_of (Flow j) xs ≡ []) → AreOf n xs
by_lanes n [] none = omega (arith, sum_of_none (λ (j : ℕ). 0) (range_with_len 0 n) (λ k d lt. refl))
by_lanes n (x ∷ xs) none =
    let rest : AreOf n xs = by_lanes n xs (λ j le. none_left (held_of (Flow j) xs) (omega (arith, one_held (Flow j) x xs, ap length (none j le)))) in
    omega (
      arith,
      rest,
      one_lane n x.lane (there n x xs none x.lane refl),
      one_held Own x xs,
      sum_split (λ j. length (held_of (Flow j) (x ∷ xs))) (λ j. count (same_lane x.lane (Flow j))) (λ j. length (held_of (Flow j) xs)) 0 n (λ j. one_held (Flow j) x xs),
    )

-- what is noted of a flow lane that isn't there is nothing
pub all_there : (own : Far) (h : Hands) (xs : List Holding) (n : ℕ) → length h.stints ≡ n → AreOrdered own h xs → AreOf n xs
all_there own h xs n entries ordered =
    by_lanes n xs
    (λ j le.
    let free : entry_at h.stints j ≡ None = past_entries h.stints j (omega (arith, entries, le)) in
    none_left (held_of (Flow j) xs)
    (omega (arith, ap length (ordered (Flow j)), length-map (held_of (Flow j) xs) pair_in, ap length (ap (λ o. map pair_of (held_now o)) free))))
