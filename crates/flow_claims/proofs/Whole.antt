-- A seat with all parts closes each lane in turn, and has the lane's whole record among its finished stints.
use Rattle.std.proofs.Common.{◌≡◌, ◌≢◌, ℕ, ◌+◌, ◌*◌, ◌/◌, ◌%◌, ◌<◌, inl, ⊎_elim, true, eqb, List, [], ◌++◌, length, set, get_or, slice_get, Some, None, All, Contains, refl, sym, ap, ◌∙◌, subst, arith, ne_eqb, eqb-true, append-nil, sum_by}
use Rattle.std.proofs.lemmas.List.Elements.{All-nil, All-weaker, All-contains, All-contains_itself}
use Rattle.std.proofs.lemmas.Option.{same_Some, slice_get-get_or}
use mathlib.Core.Option as O
use lib.ListN.{get_elem?}
use Rattle.atomic_table.specs.Table.{step, takes, Allows}
use Rattle.atomic_table.proofs.Lists.{set_here}
use Rattle.lane_rings.specs.declared.far.Far.{Far}
use Rattle.lists.specs.Counts.{count}
use Rattle.lists.proofs.SeatSums.{All-at, term_le, place_below}
use Rattle.flow_claims.specs.declared.seating.LaneLists.{LaneLists}
use Rattle.flow_claims.specs.declared.seating.Past.{Past}
use Rattle.flow_claims.specs.declared.seating.Seating.{Seating}
use Rattle.flow_claims.specs.Lists.{no_lists, lists_of}
use Rattle.flow_claims.specs.Stints.{at_lane, times, gives_up, stints_of, below, left_in, received_in, answered_in}
use Rattle.flow_claims.specs.Seats.{find_lane, after_close}
use Rattle.flow_claims.specs.Ends.{IsEnd}
use Rattle.flow_claims.specs.Rule.{Board, word_at, home_at, busy, opens, closed_by, IsHome, IsLane, IsHeld, IsSeat, Claimed}
use Rattle.flow_claims.specs.Steps.{Sitting, Closes}
use Rattle.flow_claims.proofs.Choices.{by_number, All-place}
use Rattle.flow_claims.proofs.Held.{none_open, none_of_lane}
use Rattle.lists.proofs.Counts.{of_count}
use Rattle.flow_claims.proofs.Records.{below_step, some_stint, sums_received, sums_answered, pieces_received, pieces_answered, last_is, all_settled}
use Rattle.flow_claims.proofs.Moved.{MayFollow, moved}
use Rattle.flow_claims.proofs.WordReads.{busy_over, busy_held, all_finished, none_closed, busy_is, counted_all}

-- a stint that is counted is there
found : (lane number : ℕ) (ps : List Past) → times lane number ps ≡ 1 → (p : Past) × Contains ps p × (p.lane ≡ lane) × (p.number ≡ number)
found lane number ps e =
    let at = some_stint (λ p. count (eqb p.number number)) lane ps (omega (arith, e)) in
    (at.0, at.1, at.2, eqb-true at.0.number number (of_count (eqb at.0.number number) at.3))

-- each stint of the record is a finished one
among : (lane : ℕ) (past finished : List Past) → ((number : ℕ) → times lane number finished ≡ below number (length past))
    → All (λ p. p.lane ≡ lane → slice_get past p.number ≡ Some p) finished → All (Contains finished) past
among lane past finished once in_record k d lt =
    let at = found lane k finished (once k ∙ is_below k (length past) lt) in
    let there : slice_get past at.0.number ≡ Some at.0 = All-contains (λ p. p.lane ≡ lane → slice_get past p.number ≡ Some p) finished at.0 in_record at.1 at.2 in
    let same : at.0 ≡ get_or past k d = same_Some at.0 (get_or past k d) (sym there ∙ ap (slice_get past) at.3 ∙ slice_get-get_or past k d lt) in
    subst (Contains finished) same at.1
  where
    is_below : (a b : ℕ) → a < b → below a b ≡ 1
    is_below a b h = grind (arith, h)

-- the end at home, and the seat's finished stints
end_is : (lanes : List Far) (s : Board) (id lane : ℕ) (v : Seating) (far : Far) (c : Claimed lanes s) → get_elem? s.views id ≡ O.some v → v.parts ≡ 64 → lane < length lanes
    → IsHome lanes lane (home_at s lane) (c.past lane) far → IsEnd lanes v.finished lane far
end_is lanes s id lane v far c here whole lt home =
    let own : IsSeat lanes s.words s.homes c.past v = All-at (IsSeat lanes s.words s.homes c.past) s.views id v c.each_seat here in
    let is : IsLane lanes lane (word_at s lane) (home_at s lane) (sum_by (closed_by lane) s.views) (c.past lane) = c.each_lane lane lt in
    let past : List Past = c.past lane in
    let once : (number : ℕ) → times lane number v.finished ≡ below number (length past) =
    λ number. sym (all_finished lanes s id v c here whole (at_lane lane (λ p. count (eqb p.number number)))) ∙ c.once lane number lt ∙ ap (below number) (sym is.counted) in
    let in_record : All (λ p. p.lane ≡ lane → slice_get past p.number ≡ Some p) v.finished =
    All-weaker (λ p. (p.lane < length lanes) × (slice_get (c.past p.lane) p.number ≡ Some p)) (λ p. p.lane ≡ lane → slice_get past p.number ≡ Some p)
    (λ p k e. subst (λ j. slice_get (c.past j) p.number ≡ Some p) e k.1) v.finished own.kept in
    let weighed : (f : Past → ℕ) → sum_by (at_lane lane f) v.finished ≡ sum_by f past =
    λ f. sym (all_finished lanes s id v c here whole (at_lane lane f)) ∙ c.weighed lane f lt in
    record {
      of_lane = home.1;
      past = past;
      recorded = is.recorded;
      lists = home.2;
      received_is = ap (λ (x : LaneLists). x.received) home.2 ∙ pieces_received lane 0 no_lists past is.recorded;
      answered_is = ap (λ (x : LaneLists). x.answered) home.2 ∙ pieces_answered lane 0 no_lists past is.recorded;
      done = is.done;
      final = is.final;
      surrendered = All-weaker (λ p. p.lane ≡ lane → slice_get past p.number ≡ Some p) (λ p. p.lane ≡ lane → p.surrendered ≡ true → lists_of far ≡ p.end)
          (λ p there e gone. home.2 ∙ last_is no_lists past p.number p (there e) (All-place (λ q. q.surrendered ≡ true → q.number + 1 ≡ length past) past p.number p is.final (there e) gone)) v.finished in_record;
      settled = λ none. ap left_in home.2 ∙ all_settled no_lists past refl is.done (omega (arith, weighed gives_up, none));
      once = once;
      in_record = in_record;
      among = among lane past v.finished once in_record;
      weighed = weighed;
      received = λ f. omega (arith, weighed (λ p. sum_by f (received_in p)), sums_received lane 0 no_lists past is.recorded f, ap (λ (x : LaneLists). sum_by f x.received) home.2);
      answered = λ f. omega (arith, weighed (λ p. sum_by f (answered_in p)), sums_answered lane 0 no_lists past is.recorded f, ap (λ (x : LaneLists). sum_by f x.answered) home.2);
    }

-- the lane's end is at home, where all lanes below it alone were closed and the seat has no stint of it
at_home : (lanes : List Far) (s : Board) (id lane : ℕ) (v : Seating) (c : Claimed lanes s) → get_elem? s.views id ≡ O.some v → v.parts ≡ 64 → lane < length lanes
    → v.closed ≡ lane → busy (word_at s lane) ≡ 0 → (far : Far) × IsHome lanes lane (home_at s lane) (c.past lane) far
at_home lanes s id lane v c here whole lt closed_is free =
    by_number (word_at s lane % 256) 0 (λ t. (far : Far) × IsHome lanes lane (home_at s lane) (c.past lane) far)
    (λ e. let at = is.free e in (at.0, at.1))
    (λ ne. by_number (word_at s lane % 256) 255 (λ t. (far : Far) × IsHome lanes lane (home_at s lane) (c.past lane) far)
    (λ e. ⊎_elim (λ some. absurd (omega (arith, some, none_closed lanes s id v c here lane whole (omega (arith, closed_is))))) (λ at. (at.0, at.1)) (is.over e))
    (λ no. absurd (omega (arith, busy_held (word_at s lane) ne no, free))))
  where
    is : IsLane lanes lane (word_at s lane) (home_at s lane) (sum_by (closed_by lane) s.views) (c.past lane)
    is = c.each_lane lane lt

close_follows : (lanes : List Far) (s : Board) (id lane k : ℕ) (v : Seating) (c : Claimed lanes s) → get_elem? s.views id ≡ O.some v → v.parts ≡ 64 → lane < length lanes
    → v.closed ≡ lane → opens lane v.held ≡ 0 → busy (word_at s lane) ≡ 0 → word_at s lane / 256 ≡ k
    → MayFollow lanes s c.past id lane (256 * k + 255) O.none v (after_close v) []
close_follows lanes s id lane k v c here whole lt closed_is none free k_is =
    let is : IsLane lanes lane (word_at s lane) (home_at s lane) (sum_by (closed_by lane) s.views) (c.past lane) = c.each_lane lane lt in
    let w : Seating = after_close v in
    let same : c.past lane ++ [] ≡ c.past lane = append-nil (c.past lane) in
    let others = none_of_lane lane v.held none in
    let IsIt : List Past → Type 0 = λ ps. IsLane lanes lane (256 * k + 255) (O.some O.none) (sum_by (closed_by lane) (set s.views id w)) ps in
    record {
      has_part = omega (arith, whole);
      parts = refl;
      lanes_same = refl;
      closed = λ j ne. ap (λ k. below j (k + 1)) closed_is ∙ omega (arith, below_step j lane, ap count (ne_eqb lane j (λ e. ne (sym e)))) ∙ ap (below j) (sym closed_is);
      finished = sym (append-nil v.finished);
      of_lane = All-nil (λ p. p.lane ≡ lane);
      placed = All-nil (λ p. slice_get (c.past lane ++ []) p.number ≡ Some p);
      lane_is = subst IsIt (sym same) (record {
        recorded = is.recorded;
        counted = omega (arith, is.counted, k_is);
        done = is.done;
        closed = λ _. omega arith;
        final = is.final;
        surrendered = All-weaker (λ p. p.surrendered ≡ true → word_at s lane % 256 ≡ 255) (λ p. p.surrendered ≡ true → (256 * k + 255) % 256 ≡ 255)
            (λ p over gone. omega arith) (c.past lane) is.surrendered;
        free = λ z. absurd (omega (arith, z));
        over = λ _. inl (omega (arith, term_le (closed_by lane) (set s.views id w) id w (set_here s.views id w (place_below s.views id v here)), is_below lane (v.closed + 1) (omega (arith, closed_is))));
      });
      only_holder = omega (arith, none, free);
      holder = omega (arith, none, busy_over (256 * k + 255) (omega arith));
      others = λ j ne. refl;
      held_here = All-weaker (λ x. x.lane ≢ lane) (λ x. x.lane ≡ lane → IsHeld (256 * k + 255) (O.some O.none) (c.past lane ++ []) x) (λ x ne e. absurd (ne e)) v.held others;
      held_others = All-weaker (Contains v.held) (λ x. x.lane ≢ lane → Contains v.held x) (λ x at _. at) v.held (All-contains_itself v.held);
    }
  where
    is_below : (a b : ℕ) → a < b → below a b ≡ 1
    is_below a b h = grind (arith, h)

pub closes : (lanes : List Far) (slots id lane k : ℕ) (me : Sitting) → me.0.parts ≡ 64 → me.0.lanes ≡ lanes → lane < length lanes
    → me.0.closed ≡ lane → find_lane lane me.0.held ≡ None → k ≡ stints_of lane me.0.finished
    → Allows (Claimed lanes) slots id me lane (λ _. 256 * k + 255) (Closes (step slots lane (256 * k + 255) 0 O.none) me)
closes lanes slots id lane k me whole lanes_are lt closed_is none k_is s c count_is here small =
    let v : Seating = me.0 in
    let no_stint : opens lane v.held ≡ 0 = none_open lane v.held none in
    let free : busy (word_at s lane) ≡ 0 =
    busy_is lanes s id v c here lane whole lt ∙ no_stint in
    let at = at_home lanes s id lane v c here whole lt closed_is free in
    let Of : List Far → Type 0 = λ ls. IsEnd ls v.finished lane at.0 in (
      after_close v,
      takes lane (Some at.0),
      at.1.0,
      moved lanes s id lane (256 * k + 255) O.none v (after_close v) [] c here lt
          (close_follows lanes s id lane k v c here whole lt closed_is no_stint free (counted_all lanes s id v c here lane whole lt ∙ sym k_is)),
      (at.0, refl, refl, subst Of (sym lanes_are) (end_is lanes s id lane v at.0 c here whole lt at.1)),
    )
