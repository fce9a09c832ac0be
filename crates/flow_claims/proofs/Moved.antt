-- The rule after one view changed, and after one lane's word, slot and record changed with one view.
use Rattle.std.proofs.Common.{◌≡◌, ◌≢◌, ℕ, ◌+◌, ◌<◌, inl, inr, ⊎_elim, cond, eqb, List, ◌++◌, length, set, get_or, slice_get, Option, Some, All, Contains, sym, ap, ◌∙◌, subst, arith, eq-eqb, ne_eqb, sum_by}
use Rattle.std.proofs.lemmas.List.{length-set, get_or-set_same, get_or-set_other}
use Rattle.std.proofs.lemmas.List.Elements.{All-append, All-contains, All-weaker}
use mathlib.Core.Option as O
use mathlib.Core.Logic.{dite}
use native.Mathlib.Decide.{ℕ_discrete}
use lib.ListN.{get_elem?}
use Rattle.atomic_table.proofs.Lists.{set_here, set_else}
use Rattle.lane_rings.specs.declared.far.Far.{Far}
use Rattle.lists.specs.Counts.{count}
use Rattle.std.proofs.lemmas.List.Sums.{sum_by-append}
use Rattle.lists.proofs.SeatSums.{All-at, sum_by-changed, terms_le}
use Rattle.flow_claims.specs.declared.seating.Begun.{Begun}
use Rattle.flow_claims.specs.declared.seating.Past.{Past}
use Rattle.flow_claims.specs.declared.seating.Seating.{Seating}
use Rattle.flow_claims.specs.Lists.{no_lists}
use Rattle.flow_claims.specs.Stints.{at_lane, times, below}
use Rattle.flow_claims.specs.Rule.{Board, Home, word_at, home_at, busy, opens, closed_by, IsLane, IsHeld, IsSeat, Claimed}
use Rattle.flow_claims.proofs.Choices.{get_before, All-replaced, All-both}
use Rattle.flow_claims.proofs.Held.{none_of_lane}
use Rattle.flow_claims.proofs.Records.{record_numbers, all_at_lane, none_at_lane}

abbrev Homes : Type 0
Homes = List (O.Option (Option Far))

-- the view w knows the same stints as v
pub record IsSame (v w : Seating) : Type 0 where
  pub parts : w.parts ≡ v.parts
  pub lanes : w.lanes ≡ v.lanes
  pub finished : w.finished ≡ v.finished
  pub closed : w.closed ≡ v.closed
  pub opens_same : (lane : ℕ) → opens lane w.held ≡ opens lane v.held
  pub held : All (Contains v.held) w.held

pub lane_more : (lanes : List Far) (lane word : ℕ) (home : Home) (few more : ℕ) (past : List Past) → few ≡ more
    → IsLane lanes lane word home few past → IsLane lanes lane word home more past
lane_more lanes lane word home few more past same is = record {
  recorded = is.recorded;
  counted = is.counted;
  done = is.done;
  final = is.final;
  surrendered = is.surrendered;
  closed = λ some. is.closed (omega (arith, some, same));
  free = is.free;
  over = λ e. ⊎_elim (λ some. inl (omega (arith, some, same))) inr (is.over e);
}

pub reviewed : (lanes : List Far) (s : Board) (id : ℕ) (v w : Seating) → Claimed lanes s → get_elem? s.views id ≡ O.some v → 0 < v.parts → IsSame v w
    → Claimed lanes (record { words = s.words; homes = s.homes; views = set s.views id w })
reviewed lanes s id v w c me part same =
    let own : IsSeat lanes s.words s.homes c.past v = All-at (IsSeat lanes s.words s.homes c.past) s.views id v c.each_seat me in
    let Held : Begun → Type 0 = λ b. (b.lane < length lanes) × IsHeld (get_or s.words b.lane 0) (get_elem? s.homes b.lane) (c.past b.lane) b in
    let Kept : List Past → Type 0 = All (λ p. (p.lane < length lanes) × (slice_get (c.past p.lane) p.number ≡ Some p)) in
    record {
      wide = c.wide;
      deep = c.deep;
      past = c.past;
      each_lane = λ lane h. lane_more lanes lane (word_at s lane) (home_at s lane) (sum_by (closed_by lane) s.views) (sum_by (closed_by lane) (set s.views id w)) (c.past lane)
          (omega (arith, ap (below lane) same.closed, sum_by-changed (closed_by lane) s.views id v w me)) (c.each_lane lane h);
      each_seat = All-replaced (IsSeat lanes s.words s.homes c.past) s.views id w
          (record {
            idle = λ none. absurd (omega (arith, none, same.parts, part));
            same_lanes = λ some. same.lanes ∙ own.same_lanes part;
            held = All-weaker (Contains v.held) Held (λ b at. All-contains Held v.held b own.held at) w.held same.held;
            kept = subst Kept (sym same.finished) own.kept;
          })
          (λ j u ne e. All-at (IsSeat lanes s.words s.homes c.past) s.views j u c.each_seat e);
      parts = omega (arith, c.parts, same.parts, sum_by-changed (λ u. u.parts) s.views id v w me);
      one_holder = λ lane h. omega (arith, c.one_holder lane h, same.opens_same lane, sum_by-changed (λ u. opens lane u.held) s.views id v w me);
      once = λ lane number h. omega (arith, c.once lane number h, ap (times lane number) same.finished, sum_by-changed (λ u. times lane number u.finished) s.views id v w me);
      weighed = λ lane f h. omega (arith, c.weighed lane f h, ap (sum_by (at_lane lane f)) same.finished, sum_by-changed (λ u. sum_by (at_lane lane f) u.finished) s.views id v w me);
    }

-- one lane's record is another one
abbrev pub with_past : (ℕ → List Past) → ℕ → List Past → ℕ → List Past
with_past past lane mine j = cond (eqb j lane) mine (past j)

-- What a step owes that makes the word of the lane n, its slot h, and the view v of the seat w, and adds `extra` to the record.
pub record MayFollow (lanes : List Far) (s : Board) (past : ℕ → List Past) (id lane n : ℕ) (h : O.Option (Option Far)) (v w : Seating) (extra : List Past) : Type 0 where
  pub has_part : 0 < v.parts
  pub parts : w.parts ≡ v.parts
  pub lanes_same : w.lanes ≡ v.lanes
  pub closed : (j : ℕ) → j ≢ lane → closed_by j w ≡ closed_by j v
  pub finished : w.finished ≡ v.finished ++ extra
  pub of_lane : All (λ p. p.lane ≡ lane) extra
  pub placed : All (λ p. slice_get (past lane ++ extra) p.number ≡ Some p) extra
  pub lane_is : IsLane lanes lane n (O.some h) (sum_by (closed_by lane) (set s.views id w)) (past lane ++ extra)
  pub only_holder : opens lane v.held ≡ busy (word_at s lane)
  pub holder : opens lane w.held ≡ busy n
  pub others : (j : ℕ) → j ≢ lane → opens j w.held ≡ opens j v.held
  pub held_here : All (λ b. b.lane ≡ lane → IsHeld n (O.some h) (past lane ++ extra) b) w.held
  pub held_others : All (λ b. b.lane ≢ lane → Contains v.held b) w.held

module _ (lanes : List Far) (s : Board) (lane n : ℕ) (h : O.Option (Option Far)) (past : ℕ → List Past) (mine : List Past) where
  -- at that lane, or at another one
  at : (F : ℕ → Home → List Past → Type 0) (j : ℕ) → lane < length s.words → lane < length s.homes
      → (j ≡ lane → F n (O.some h) mine) → (j ≢ lane → F (get_or s.words j 0) (get_elem? s.homes j) (past j))
      → F (get_or (set s.words lane n) j 0) (get_elem? (set s.homes lane h) j) (with_past past lane mine j)
  at F j wide deep here there =
      dite (ℕ_discrete j lane)
      (λ e.
      let word : get_or (set s.words lane n) j 0 ≡ n = ap (λ x. get_or (set s.words lane n) x 0) e ∙ get_or-set_same s.words lane n 0 wide in
      let home : get_elem? (set s.homes lane h) j ≡ O.some h = ap (get_elem? (set s.homes lane h)) e ∙ set_here s.homes lane h deep in
      let rec : with_past past lane mine j ≡ mine = ap (λ t. cond t mine (past j)) (eq-eqb j lane e) in
      subst (λ x. F x (get_elem? (set s.homes lane h) j) (with_past past lane mine j)) (sym word)
      (subst (λ x. F n x (with_past past lane mine j)) (sym home) (subst (F n (O.some h)) (sym rec) (here e))))
      (λ ne.
      let word : get_or (set s.words lane n) j 0 ≡ get_or s.words j 0 = get_or-set_other s.words lane j n 0 ne in
      let home : get_elem? (set s.homes lane h) j ≡ get_elem? s.homes j = set_else s.homes lane j h ne in
      let rec : with_past past lane mine j ≡ past j = ap (λ t. cond t mine (past j)) (ne_eqb j lane ne) in
      subst (λ x. F x (get_elem? (set s.homes lane h) j) (with_past past lane mine j)) (sym word)
      (subst (λ x. F (get_or s.words j 0) x (with_past past lane mine j)) (sym home) (subst (F (get_or s.words j 0) (get_elem? s.homes j)) (sym rec) (there ne))))

pub moved : (lanes : List Far) (s : Board) (id lane n : ℕ) (h : O.Option (Option Far)) (v w : Seating) (extra : List Past)
    → (c : Claimed lanes s) → get_elem? s.views id ≡ O.some v → lane < length lanes → MayFollow lanes s c.past id lane n h v w extra
    → Claimed lanes (record { words = set s.words lane n; homes = set s.homes lane h; views = set s.views id w })
moved lanes s id lane n h v w extra c me below_all may =
    let wide : lane < length s.words = omega (arith, c.wide, below_all) in
    let deep : lane < length s.homes = omega (arith, c.deep, below_all) in
    let mine : List Past = c.past lane ++ extra in
    let past' : ℕ → List Past = with_past c.past lane mine in
    let words' : List ℕ = set s.words lane n in
    let homes' : Homes = set s.homes lane h in
    let Seat : Seating → Type 0 = IsSeat lanes s.words s.homes c.past in
    let Kept : Past → Type 0 = λ p. (p.lane < length lanes) × (slice_get (c.past p.lane) p.number ≡ Some p) in
    let Kept' : Past → Type 0 = λ p. (p.lane < length lanes) × (slice_get (past' p.lane) p.number ≡ Some p) in
    let Held : Begun → Type 0 = λ b. (b.lane < length lanes) × IsHeld (get_or s.words b.lane 0) (get_elem? s.homes b.lane) (c.past b.lane) b in
    let Held' : Begun → Type 0 = λ b. (b.lane < length lanes) × IsHeld (get_or words' b.lane 0) (get_elem? homes' b.lane) (past' b.lane) b in
    let own : IsSeat lanes s.words s.homes c.past v = All-at Seat s.views id v c.each_seat me in
    -- what was in a record is in it still
    let kept_on : (p : Past) → Kept p → Kept' p = λ p k. (
      k.0,
      at lanes s lane n h c.past mine (λ x y z. slice_get z p.number ≡ Some p) p.lane wide deep
          (λ e. get_before (c.past lane) extra p.number p (subst (λ j. slice_get (c.past j) p.number ≡ Some p) e k.1)) (λ ne. k.1),
    ) in
    let kept_new : (p : Past) → p.lane ≡ lane → slice_get mine p.number ≡ Some p → Kept' p = λ p e g. (
      omega (arith, e, below_all),
      at lanes s lane n h c.past mine (λ x y z. slice_get z p.number ≡ Some p) p.lane wide deep (λ _. g) (λ ne. absurd (ne e)),
    ) in
    let held_on : (b : Begun) → b.lane ≢ lane → Held b → Held' b = λ b ne k. (
      k.0,
      at lanes s lane n h c.past mine (λ x y z. IsHeld x y z b) b.lane wide deep (λ e. absurd (ne e)) (λ _. k.1),
    ) in
    let held_own : (b : Begun) → (b.lane ≡ lane → IsHeld n (O.some h) mine b) → (b.lane ≢ lane → Contains v.held b) → Held' b = λ b p q. (
      dite (ℕ_discrete b.lane lane) (λ e. omega (arith, e, below_all)) (λ ne. (All-contains Held v.held b own.held (q ne)).0),
      at lanes s lane n h c.past mine (λ x y z. IsHeld x y z b) b.lane wide deep p (λ ne. (All-contains Held v.held b own.held (q ne)).1),
    ) in
    let closers : (j : ℕ) → j ≢ lane → sum_by (closed_by j) s.views ≡ sum_by (closed_by j) (set s.views id w) =
    λ j ne. omega (arith, may.closed j ne, sum_by-changed (closed_by j) s.views id v w me) in
    let weighs : (j : ℕ) (f : Past → ℕ) → j < length lanes → sum_by (λ u. sum_by (at_lane j f) u.finished) (set s.views id w) ≡ sum_by f (past' j) =
    λ j f lt.
    let set_is = sum_by-changed (λ u. sum_by (at_lane j f) u.finished) s.views id v w me in
    let now = ap (sum_by (at_lane j f)) may.finished in
    let parts_is = sum_by-append (at_lane j f) v.finished extra in
    dite (ℕ_discrete j lane)
    (λ e.
    let rec : past' j ≡ mine = ap (λ t. cond t mine (c.past j)) (eq-eqb j lane e) in
    let here = c.weighed j f lt in
    omega (
      arith,
      set_is,
      now,
      parts_is,
      ap (sum_by f) rec,
      sum_by-append f (c.past lane) extra,
      here,
      ap (λ x. sum_by f (c.past x)) e,
      ap (λ x. sum_by (at_lane x f) extra) e,
      all_at_lane lane f extra may.of_lane,
    ))
    (λ ne.
    let rec : past' j ≡ c.past j = ap (λ t. cond t mine (c.past j)) (ne_eqb j lane ne) in
    omega (arith, set_is, now, parts_is, ap (sum_by f) rec, c.weighed j f lt, none_at_lane lane j f extra ne may.of_lane)) in
    let lane_is : (j : ℕ) → j < length lanes → IsLane lanes j (get_or words' j 0) (get_elem? homes' j) (sum_by (closed_by j) (set s.views id w)) (past' j) =
    λ j lt. at lanes s lane n h c.past mine (λ x y z. IsLane lanes j x y (sum_by (closed_by j) (set s.views id w)) z) j wide deep
    (λ e. subst (λ k. IsLane lanes k n (O.some h) (sum_by (closed_by k) (set s.views id w)) mine) (sym e) may.lane_is)
    (λ ne. lane_more lanes j (word_at s j) (home_at s j) (sum_by (closed_by j) s.views) (sum_by (closed_by j) (set s.views id w)) (c.past j) (closers j ne) (c.each_lane j lt)) in
    record {
      wide = length-set s.words lane n ∙ c.wide;
      deep = length-set s.homes lane h ∙ c.deep;
      past = past';
      each_lane = lane_is;
      each_seat = All-replaced (IsSeat lanes words' homes' past') s.views id w
          (record {
            idle = λ none. absurd (omega (arith, none, may.parts, may.has_part));
            same_lanes = λ some. may.lanes_same ∙ own.same_lanes may.has_part;
            held = All-both (λ b. b.lane ≡ lane → IsHeld n (O.some h) mine b) (λ b. b.lane ≢ lane → Contains v.held b) Held' held_own w.held may.held_here may.held_others;
            kept = subst (All Kept') (sym may.finished)
                (All-append Kept' v.finished extra (All-weaker Kept Kept' kept_on v.finished own.kept)
                (All-both (λ p. p.lane ≡ lane) (λ p. slice_get mine p.number ≡ Some p) Kept' kept_new extra may.of_lane may.placed));
          })
          (λ j u ne e.
          let was : IsSeat lanes s.words s.homes c.past u = All-at Seat s.views j u c.each_seat e in
          let none : opens lane u.held ≡ 0 =
          omega (arith, c.one_holder lane below_all, may.only_holder, terms_le (λ x. opens lane x.held) s.views id j v u ne me e) in
          record {
            idle = was.idle;
            same_lanes = was.same_lanes;
            held = All-both (λ b. b.lane ≢ lane) Held Held' held_on u.held (none_of_lane lane u.held none) was.held;
            kept = All-weaker Kept Kept' kept_on u.finished was.kept;
          });
      parts = omega (arith, c.parts, may.parts, sum_by-changed (λ u. u.parts) s.views id v w me);
      one_holder = λ j lt.
          let set_is = sum_by-changed (λ u. opens j u.held) s.views id v w me in
          dite (ℕ_discrete j lane)
          (λ e.
          let word : get_or words' j 0 ≡ n = ap (λ x. get_or words' x 0) e ∙ get_or-set_same s.words lane n 0 wide in
          omega (arith, set_is, ap busy word, c.one_holder j lt, ap (λ x. opens x v.held) e, ap (λ x. opens x w.held) e, ap (λ x. busy (word_at s x)) e, may.only_holder, may.holder))
          (λ ne.
          let word : get_or words' j 0 ≡ get_or s.words j 0 = get_or-set_other s.words lane j n 0 ne in
          omega (arith, set_is, ap busy word, c.one_holder j lt, may.others j ne));
      once = λ j number lt.
          let is = lane_is j lt in
          weighs j (λ p. count (eqb p.number number)) lt ∙ nought number (sum_by (λ p. count (eqb p.number number)) (past' j)) (length (past' j)) (record_numbers j 0 no_lists (past' j) is.recorded number) ∙ ap (below number) is.counted;
      weighed = weighs;
    }
  where
    nought : (k a b : ℕ) → below k 0 + a ≡ below k (0 + b) → a ≡ below k b
    nought k a b e = grind (arith, e)
