-- What the rule says of a board: holders, numbers and lists of stints.
use Rattle.std.proofs.Common.{◌≡◌, ◌≢◌, ℕ, suc, ◌+◌, ◌/◌, ◌%◌, ◌<◌, ◌≤◌, ◌⊎◌, eqb, inl, inr, ⊎_elim, List, [], length, get_or, slice_get, Option, Some, None, All, Contains, refl, sym, ◌∙◌, subst, arith, sum_by}
use Rattle.std.specs.List.{range_with_len}
use Rattle.std.proofs.lemmas.List.Elements.{All-contains, All-weaker}
use native.Mathlib.Decide.{dec_le}
use lib.ListN.{get_elem?}
use Rattle.lane_rings.specs.Ends.{unanswered}
use Rattle.lane_rings.specs.declared.far.Far.{Far}
use Rattle.lists.specs.Counts.{count}
use Rattle.lists.proofs.SeatSums.{All-at, term_le, terms_le}
use Rattle.lists.proofs.Counts.{of_count}
use Rattle.flow_claims.specs.declared.seating.Begun.{Begun}
use Rattle.flow_claims.specs.declared.seating.Past.{Past}
use Rattle.flow_claims.specs.declared.seating.Seating.{Seating}
use Rattle.flow_claims.specs.Lists.{no_lists, GoesOn}
use Rattle.flow_claims.specs.Stints.{IsDone, IsRecordFrom, at_lane, times, gives_up, stints_of, below}
use Rattle.flow_claims.specs.Seats.{find_lane, stint_at, HasAll, first_seating}
use Rattle.flow_claims.specs.Rule.{Board, word_at, home_at, busy, opens, closed_by, IsHeld, IsSeat, IsSpent, Claimed}
use Rattle.flow_claims.specs.Laws.{Sits, IsAtHome, IsHeldByOne, IsInOneList, WasClosed, WasSurrendered}
use Rattle.flow_claims.proofs.Choices.{some_term, All-place}
use Rattle.flow_claims.proofs.Held.{found_lane, found_has, none_found, none_open}
use Rattle.flow_claims.proofs.Records.{some_stint, record_start, record_next, record_grows, last_is}
use Rattle.flow_claims.proofs.WordReads.{busy_free, busy_over, busy_held, sum_of_ones, all_finished, reads}
use Rattle.flow_claims.proofs.Keeps.{at_most_one}
use Rattle.flow_claims.proofs.ByLane.{sum_by_key}

-- a lane of which a list of open stints has one, and one of which it has none
held_some : (lane : ℕ) (bs : List Begun) → 0 < opens lane bs → (b : Begun) × (find_lane lane bs ≡ Some b)
held_some lane bs some = by (find_lane lane bs) refl
  where
    by : (found : Option Begun) → find_lane lane bs ≡ found → (b : Begun) × (find_lane lane bs ≡ Some b)
    by None e = absurd (omega (arith, some, none_open lane bs e))
    by (Some b) e = (b, e)

is_below : (a b : ℕ) → a < b → below a b ≡ 1
is_below a b h = grind (arith, h)

above : (a b : ℕ) → b ≤ a → below a b ≡ 0
above a b h = grind (arith, h)

below_is : (a b : ℕ) → 0 < below a b → a < b
below_is a b some = by (dec_le b a)
  where
    by : Dec (b ≤ a) → a < b
    by (yes le) = absurd (omega (arith, some, above a b le))
    by (no lt) = omega (arith, lt)

module _ (lanes : List Far) (s : Board) (c : Claimed lanes s) where
  seat_at : (i : ℕ) (v : Seating) → Sits s i v → IsSeat lanes s.words s.homes c.past v
  seat_at i v here = All-at (IsSeat lanes s.words s.homes c.past) s.views i v c.each_seat here

  pub record Knows (lane : ℕ) (b : Begun) : Type 0 where
    pub exists : lane < length lanes
    pub is : IsHeld (word_at s lane) (home_at s lane) (c.past lane) b

  pub knows : (i lane : ℕ) (v : Seating) (b : Begun) → Sits s i v → stint_at v lane ≡ Some b → Knows lane b
  knows i lane v b here e =
      let Held : Begun → Type 0 = λ x. (x.lane < length lanes) × IsHeld (get_or s.words x.lane 0) (get_elem? s.homes x.lane) (c.past x.lane) x in
      let At : ℕ → Type 0 = λ j. IsHeld (get_or s.words j 0) (get_elem? s.homes j) (c.past j) b in
      let k = found_has Held lane v.held b (seat_at i v here).held e in
      let same = found_lane lane v.held b e in
      record { exists = omega (arith, k.0, same); is = subst At same k.1 }

  pub once : (i lane : ℕ) (v : Seating) → Sits s i v → opens lane v.held ≤ 1
  once i lane v here =
      at_most_one lanes s i v c here
      (All-weaker (λ x. (x.lane < length lanes) × IsHeld (get_or s.words x.lane 0) (get_elem? s.homes x.lane) (c.past x.lane) x) (λ x. x.lane < length lanes) (λ x k. k.0) v.held (seat_at i v here).held)
      lane

  pub held_by_one : (lane : ℕ) → lane < length lanes → word_at s lane % 256 ≢ 0 → word_at s lane % 256 ≢ 255 → IsHeldByOne s lane
  held_by_one lane lt n m =
      let one = busy_held (word_at s lane) n m in
      let at = some_term (λ u. opens lane u.held) s.views (omega (arith, one, c.one_holder lane lt)) in
      let has = held_some lane at.1.held at.3 in
      record {
        seat = at.0;
        view = at.1;
        begun = has.0;
        sits = at.2;
        holds = has.1;
        others = λ j w ne here. none_found lane w.held (omega (arith, one, c.one_holder lane lt, at.3, terms_le (λ u. opens lane u.held) s.views at.0 j at.1 w ne at.2 here));
      }

  pub none_held : (lane i : ℕ) (v : Seating) → lane < length lanes → (word_at s lane % 256 ≡ 0) ⊎ (word_at s lane % 256 ≡ 255) → Sits s i v → stint_at v lane ≡ None
  none_held lane i v lt free here =
      let nobody : busy (word_at s lane) ≡ 0 = ⊎_elim (λ e. busy_free (word_at s lane) e) (λ e. busy_over (word_at s lane) e) free in
      none_found lane v.held (omega (arith, nobody, c.one_holder lane lt, term_le (λ u. opens lane u.held) s.views i v here))

  pub free_at_home : (lane : ℕ) → lane < length lanes → word_at s lane % 256 ≡ 0 → (far : Far) × IsAtHome lanes s lane far × (unanswered far ≡ [])
  free_at_home lane lt free = let at = (c.each_lane lane lt).free free in (at.0, (at.1.0, at.1.1), at.2)

  pub over_by : (lane : ℕ) → lane < length lanes → word_at s lane % 256 ≡ 255 → WasClosed s lane ⊎ WasSurrendered lanes s lane
  over_by lane lt over = ⊎_elim (λ some. inl (closed some)) (λ at. inr (surrendered at.0 (at.1.0, at.1.1) at.2)) ((c.each_lane lane lt).over over)
    where
      closed : 0 < sum_by (closed_by lane) s.views → WasClosed s lane
      closed some = let at = some_term (closed_by lane) s.views some in (at.0, at.1, at.2, below_is lane at.1.closed at.3)

      surrendered : (far : Far) → IsAtHome lanes s lane far → 0 < sum_by gives_up (c.past lane) → WasSurrendered lanes s lane
      surrendered far home some =
          let at = some_term (λ u. sum_by (at_lane lane gives_up) u.finished) s.views (omega (arith, some, c.weighed lane gives_up lt)) in
          let p = some_stint gives_up lane at.1.finished at.3 in
          record { far = far; at_home = home; seat = at.0; view = at.1; sits = at.2; stint = p.0; finished = p.1; of_lane = p.2; surrendered = of_count p.0.surrendered p.3 }

  pub starts_free : (lane i : ℕ) → Sits s i (first_seating lanes) → lane < length lanes → word_at s lane ≡ 0
  starts_free lane i here lt =
      let told = reads lanes s i (first_seating lanes) c here lane lt in
      omega (arith, told.counted refl, told.free refl (omega arith) (record { not_held = refl; not_surrendered = refl }))

  -- the number of a lane's stints is that of the finished ones of all seats
  pub counts : (lane : ℕ) → lane < length lanes → word_at s lane / 256 ≡ sum_by (λ u. stints_of lane u.finished) s.views
  counts lane lt = omega (arith, (c.each_lane lane lt).counted, c.weighed lane (λ p. 1) lt, sum_of_ones (c.past lane))

  pub in_one_list : (lane number : ℕ) → lane < length lanes → number < word_at s lane / 256 → IsInOneList s lane number
  in_one_list lane number lt few =
      let one = c.once lane number lt ∙ is_below number (word_at s lane / 256) few in
      let at = some_term (λ u. times lane number u.finished) s.views (omega (arith, one)) in
      record {
        seat = at.0;
        view = at.1;
        sits = at.2;
        once = omega (arith, one, at.3, term_le (λ u. times lane number u.finished) s.views at.0 at.1 at.2);
        others = λ j w ne here. omega (arith, one, at.3, terms_le (λ u. times lane number u.finished) s.views at.0 j at.1 w ne at.2 here);
      }

  pub in_no_list : (lane number i : ℕ) (v : Seating) → lane < length lanes → word_at s lane / 256 ≤ number → Sits s i v → times lane number v.finished ≡ 0
  in_no_list lane number i v lt many here =
      omega (arith, c.once lane number lt, above number (word_at s lane / 256) many, term_le (λ u. times lane number u.finished) s.views i v here)

  -- a finished stint is in its lane's record
  pub record Stands (p : Past) : Type 0 where
    pub exists : p.lane < length lanes
    pub at : slice_get (c.past p.lane) p.number ≡ Some p
    pub recorded : IsRecordFrom p.lane 0 no_lists (c.past p.lane)

  pub stands : (i : ℕ) (v : Seating) (p : Past) → Sits s i v → Contains v.finished p → Stands p
  stands i v p here at =
      let k = All-contains (λ q. (q.lane < length lanes) × (slice_get (c.past q.lane) q.number ≡ Some q)) v.finished p (seat_at i v here).kept at in
      record { exists = k.0; at = k.1; recorded = (c.each_lane p.lane k.0).recorded }

  pub first_start : (i : ℕ) (v : Seating) (p : Past) → Sits s i v → Contains v.finished p → p.number ≡ 0 → p.start ≡ no_lists
  first_start i v p here at first =
      let k = stands i v p here at in
      let At : ℕ → Type 0 = λ n. slice_get (c.past p.lane) n ≡ Some p in
      record_start p.lane 0 no_lists (c.past p.lane) k.recorded p (subst At first k.at)

  pub next_start : (i j : ℕ) (v w : Seating) (p q : Past) → Sits s i v → Sits s j w → Contains v.finished p → Contains w.finished q
      → q.lane ≡ p.lane → q.number ≡ p.number + 1 → q.start ≡ p.end
  next_start i j v w p q here there at at' same next =
      let k = stands i v p here at in
      let k' = stands j w q there at' in
      let At : ℕ → ℕ → Type 0 = λ l n. slice_get (c.past l) n ≡ Some q in
      let number : q.number ≡ suc p.number = omega (arith, next) in
      let moved : At p.lane (suc p.number) = subst (At p.lane) number (subst (λ l. At l q.number) same k'.at) in
      record_next p.lane 0 no_lists (c.past p.lane) k.recorded p.number p q k.at moved

  pub open_start : (i j : ℕ) (v w : Seating) (p : Past) (b : Begun) → Sits s i v → Sits s j w → Contains v.finished p → stint_at w p.lane ≡ Some b
      → b.number ≡ p.number + 1 → b.start ≡ p.end
  open_start i j v w p b here there at e next =
      let k = stands i v p here at in
      let h = knows j p.lane w b there e in
      let last : p.number + 1 ≡ length (c.past p.lane) = omega (arith, (c.each_lane p.lane k.exists).counted, h.is.claimed, h.is.of_port, next) in
      h.is.start ∙ last_is no_lists (c.past p.lane) p.number p k.at last

  pub grows : (i : ℕ) (v : Seating) → Sits s i v → All (λ p. GoesOn p.start p.end) v.finished
  grows i v here =
      All-weaker (λ p. (p.lane < length lanes) × (slice_get (c.past p.lane) p.number ≡ Some p)) (λ p. GoesOn p.start p.end)
      (λ p k. All-place (λ q. GoesOn q.start q.end) (c.past p.lane) p.number p (record_grows p.lane 0 no_lists (c.past p.lane) (c.each_lane p.lane k.0).recorded) k.1)
      v.finished (seat_at i v here).kept

  pub all_done : (i : ℕ) (v : Seating) → Sits s i v → All IsDone v.finished
  all_done i v here =
      All-weaker (λ p. (p.lane < length lanes) × (slice_get (c.past p.lane) p.number ≡ Some p)) IsDone
      (λ p k. All-place IsDone (c.past p.lane) p.number p (c.each_lane p.lane k.0).done k.1) v.finished (seat_at i v here).kept

  pub held_by_lane : (i : ℕ) (v : Seating) → Sits s i v → length v.held ≡ sum_by (λ lane. opens lane v.held) (range_with_len 0 (length lanes))
  held_by_lane i v here =
      sym (sum_of_ones v.held)
      ∙ sum_by_key (λ (b : Begun). b.lane) (λ b. 1) (length lanes) v.held
      (All-weaker (λ x. (x.lane < length lanes) × IsHeld (get_or s.words x.lane 0) (get_elem? s.homes x.lane) (c.past x.lane) x) (λ x. x.lane < length lanes) (λ x k. k.0) v.held (seat_at i v here).held)

  -- a seat without parts has no stint, and where one seat has all parts, each other one is such a seat
  pub nothing_without_parts : (i : ℕ) (v : Seating) → Sits s i v → v.parts ≡ 0 → IsSpent v
  nothing_without_parts i v here none = (seat_at i v here).idle none

  pub others_spent : (i j : ℕ) (v w : Seating) → Sits s i v → HasAll v → j ≢ i → Sits s j w → IsSpent w
  others_spent i j v w here whole ne there = nothing_without_parts j w there (omega (arith, whole, c.parts, terms_le (λ u. u.parts) s.views i j v w ne here there))

  -- and that one has each number of a lane's stints once
  pub all_numbered : (lane number i : ℕ) (v : Seating) → lane < length lanes → Sits s i v → HasAll v → times lane number v.finished ≡ below number (word_at s lane / 256)
  all_numbered lane number i v lt here whole = sym (all_finished lanes s i v c here whole (at_lane lane (λ p. count (eqb p.number number)))) ∙ c.once lane number lt
