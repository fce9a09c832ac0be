-- A split and a join keep the rule.
use Rattle.std.proofs.Common.{◌≡◌, ℕ, ◌+◌, ◌<◌, List, [], ◌∷◌, ◌++◌, length, set, get_or, slice_get, Some, refl, sym, ap, ◌∙◌, arith, eqb, sum_by}
use Rattle.std.proofs.lemmas.List.Elements.{All-nil, All-set, All-push, All-append}
use mathlib.Core.Option as O
use lib.ListN.{get_elem?}
use Rattle.atomic_table.specs.Table.{Splits, Joins}
use Rattle.lane_rings.specs.declared.far.Far.{Far}
use Rattle.lists.specs.Counts.{count}
use Rattle.std.proofs.lemmas.List.Sums.{sum_by-append}
use Rattle.lists.proofs.SeatSums.{All-at, other_place, sum_by-split, sum_by-joined}
use Rattle.flow_claims.specs.declared.seating.Begun.{Begun}
use Rattle.flow_claims.specs.declared.seating.Past.{Past}
use Rattle.flow_claims.specs.declared.seating.Seating.{Seating}
use Rattle.flow_claims.specs.Stints.{at_lane, times, below}
use Rattle.flow_claims.specs.Seats.{rest_of, part_of, after_join, spent_seating}
use Rattle.flow_claims.specs.Rule.{word_at, home_at, opens, closed_by, IsHeld, IsSeat, Claimed}
use Rattle.flow_claims.proofs.WordReads.{not_below}
use Rattle.flow_claims.proofs.Moved.{lane_more}

-- a part of the seat goes to a new one
pub splits : (lanes : List Far) (id : ℕ) (v : Seating) → 1 < v.parts → Splits (Claimed lanes) id v (rest_of v) (part_of v)
splits lanes id v parts s c here =
    let Seat : Seating → Type 0 = IsSeat lanes s.words s.homes c.past in
    let own : Seat v = All-at Seat s.views id v c.each_seat here in
    let Held : Begun → Type 0 = λ b. (b.lane < length lanes) × IsHeld (get_or s.words b.lane 0) (get_elem? s.homes b.lane) (c.past b.lane) b in
    let Kept : Past → Type 0 = λ p. (p.lane < length lanes) × (slice_get (c.past p.lane) p.number ≡ Some p) in
    let left : Seat (rest_of v) = record {
      idle = λ z. absurd (omega (arith, z, parts));
      same_lanes = λ _. own.same_lanes (omega (arith, parts));
      held = own.held;
      kept = own.kept;
    } in
    let right : Seat (part_of v) = record {
      idle = λ z. absurd (omega (arith, z));
      same_lanes = λ _. own.same_lanes (omega (arith, parts));
      held = All-nil Held;
      kept = All-nil Kept;
    } in
    let now : List Seating = set s.views id (rest_of v) ++ part_of v ∷ [] in
    record {
      wide = c.wide;
      deep = c.deep;
      past = c.past;
      each_lane = λ lane h. lane_more lanes lane (word_at s lane) (home_at s lane) (sum_by (closed_by lane) s.views) (sum_by (closed_by lane) now) (c.past lane)
          (omega (arith, not_below lane 0 (omega arith), sum_by-split (closed_by lane) s.views id v (rest_of v) (part_of v) here)) (c.each_lane lane h);
      each_seat = All-push Seat (set s.views id (rest_of v)) (part_of v) (All-set Seat s.views id (rest_of v) left c.each_seat) right;
      parts = omega (arith, parts, c.parts, sum_by-split (λ u. u.parts) s.views id v (rest_of v) (part_of v) here);
      one_holder = λ lane h. omega (arith, c.one_holder lane h, sum_by-split (λ u. opens lane u.held) s.views id v (rest_of v) (part_of v) here);
      once = λ lane number h. omega (arith, c.once lane number h, sum_by-split (λ u. times lane number u.finished) s.views id v (rest_of v) (part_of v) here);
      weighed = λ lane f h. omega (arith, c.weighed lane f h, sum_by-split (λ u. sum_by (at_lane lane f) u.finished) s.views id v (rest_of v) (part_of v) here);
    }

-- one seat takes the stints and the parts of another, which has closed no lane and is spent
pub joins : (lanes : List Far) (id other : ℕ) (v w : Seating) → 0 < v.parts → 0 < w.parts → w.closed ≡ 0
    → Joins (Claimed lanes) id v other w (after_join v w) spent_seating
joins lanes id other v w part part' none_closed s c here ne there =
    let both : Seating = after_join v w in
    let there' : get_elem? s.views other ≡ O.some w = sym (other_place s.views id other both ne) ∙ there in
    let Seat : Seating → Type 0 = IsSeat lanes s.words s.homes c.past in
    let own : Seat v = All-at Seat s.views id v c.each_seat here in
    let its : Seat w = All-at Seat s.views other w c.each_seat there' in
    let Held : Begun → Type 0 = λ b. (b.lane < length lanes) × IsHeld (get_or s.words b.lane 0) (get_elem? s.homes b.lane) (c.past b.lane) b in
    let Kept : Past → Type 0 = λ p. (p.lane < length lanes) × (slice_get (c.past p.lane) p.number ≡ Some p) in
    let seat : Seat both = record {
      idle = λ z. absurd (omega (arith, z, part));
      same_lanes = λ _. own.same_lanes part;
      held = All-append Held v.held w.held own.held its.held;
      kept = All-append Kept v.finished w.finished own.kept its.kept;
    } in
    let spent : Seat spent_seating = record {
      idle = λ _. record { held = refl; finished = refl; closed = refl };
      same_lanes = λ z. absurd (omega (arith, z));
      held = All-nil Held;
      kept = All-nil Kept;
    } in
    let now : List Seating = set (set s.views id both) other spent_seating in
    record {
      wide = c.wide;
      deep = c.deep;
      past = c.past;
      each_lane = λ lane h. lane_more lanes lane (word_at s lane) (home_at s lane) (sum_by (closed_by lane) s.views) (sum_by (closed_by lane) now) (c.past lane)
          (omega (arith, ap (below lane) none_closed, not_below lane 0 (omega arith), sum_by-joined (closed_by lane) s.views id other v w both spent_seating here there)) (c.each_lane lane h);
      each_seat = All-set Seat (set s.views id both) other spent_seating spent (All-set Seat s.views id both seat c.each_seat);
      parts = omega (arith, c.parts, sum_by-joined (λ u. u.parts) s.views id other v w both spent_seating here there);
      one_holder = λ lane h. omega (arith, c.one_holder lane h, joined_opens lane v.held w.held, sum_by-joined (λ u. opens lane u.held) s.views id other v w both spent_seating here there);
      once = λ lane number h. omega (arith, c.once lane number h, joined_times lane number v.finished w.finished, sum_by-joined (λ u. times lane number u.finished) s.views id other v w both spent_seating here there);
      weighed = λ lane f h. omega (arith, c.weighed lane f h, sum_by-append (at_lane lane f) v.finished w.finished, sum_by-joined (λ u. sum_by (at_lane lane f) u.finished) s.views id other v w both spent_seating here there);
    }
  where
    joined_opens : (lane : ℕ) (a b : List Begun) → opens lane (a ++ b) ≡ opens lane a + opens lane b
    joined_opens lane a b = sum_by-append (λ x. count (eqb x.lane lane)) a b

    joined_times : (lane number : ℕ) (a b : List Past) → times lane number (a ++ b) ≡ times lane number a + times lane number b
    joined_times lane number a b = sum_by-append (at_lane lane (λ p. count (eqb p.number number))) a b
