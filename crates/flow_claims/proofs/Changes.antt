-- What a step of a seat, a split or a join may change.
use Rattle.std.proofs.Common.{◌≡◌, ◌≢◌, ℕ, ◌+◌, ◌/◌, ◌%◌, ◌<◌, ◌≤◌, ⊎_elim, Bool, eqb, List, [], ◌∷◌, ◌++◌, length, set, Option, Some, None, refl, sym, ap, ◌∙◌, subst, arith, sum_by, append-nil}
use Rattle.std.proofs.lemmas.List.Sums.{sum_by-append}
use Rattle.std.proofs.lemmas.List.Elements.{All-nil, All-cons, All-contains}
use mathlib.Core.Option as O
use mathlib.Core.Option.{some-injective}
use mathlib.Core.Logic.{dite}
use native.Mathlib.Decide.{ℕ_discrete, dec_le}
use lib.ListN.{get_elem?}
use Rattle.atomic_table.proofs.Lists.{set_here}
use Rattle.lane_rings.specs.declared.far.Far.{Far}
use Rattle.lists.proofs.SeatSums.{sum_by-changed, sum_by-split, sum_by-joined, place_below, other_place}
use Rattle.flow_claims.specs.declared.seating.Begun.{Begun}
use Rattle.flow_claims.specs.declared.seating.Past.{Past}
use Rattle.flow_claims.specs.declared.seating.Seating.{Seating}
use Rattle.flow_claims.specs.Stints.{at_lane, gives_up, stints_of, below}
use Rattle.flow_claims.specs.Seats.{find_lane, stint_at, past_of, rest_of, part_of, after_join, spent_seating}
use Rattle.flow_claims.specs.Rule.{Board, word_at, closed_by}
use Rattle.flow_claims.specs.Steps.{Sitting, WordStep, Begins, Finishes, Closes, in_hand, ends_first}
use Rattle.flow_claims.specs.Laws.{Sits, IsKind, IsStep, WereOpen, MayChange, SameInAll}
use Rattle.flow_claims.proofs.Held.{found_here}
use Rattle.flow_claims.proofs.Records.{some_stint}
use Rattle.flow_claims.proofs.WordReads.{given_up}
use Rattle.flow_claims.proofs.Boards.{knows, counts}

-- what a step leaves of what the seat knows: its finished stints, of which it has more only where they were open
pub record Advances (v w : Seating) : Type 0 where
  pub closed : v.closed ≤ w.closed
  pub more : List Past
  pub finished : w.finished ≡ v.finished ++ more
  pub were_open : WereOpen v more

stays : (v w : Seating) → w.finished ≡ v.finished → w.closed ≡ v.closed → Advances v w
stays v w finished closed = record { closed = omega (arith, closed); more = []; finished = finished ∙ sym (append-nil v.finished); were_open = λ k d lt. absurd (omega (arith, lt)) }

-- the first open stint ends, where there is one and its end is in hand
ends : (gone : Bool) (bs : List Begun) (hand : Option Far) (v : Seating) → v.held ≡ bs → Advances v (ends_first gone bs hand v)
ends gone [] hand v e = stays v v refl refl
ends gone (b ∷ bs) None v e = stays v v refl refl
ends gone (b ∷ bs) (Some far) v e = record {
  closed = omega arith;
  more = past_of gone b far ∷ [];
  finished = refl;
  were_open = All-cons (λ p. (x : Begun) × (stint_at v p.lane ≡ Some x) × (p.number ≡ x.number) × (p.port ≡ x.port)) (past_of gone b far) []
      (b, ap (find_lane b.lane) e ∙ found_here b.lane b bs refl, refl, refl)
      (All-nil (λ p. (x : Begun) × (stint_at v p.lane ≡ Some x) × (p.number ≡ x.number) × (p.port ≡ x.port)));
}

advances : (st : WordStep) (m n : Sitting) (word : ℕ) → IsKind st m word n → Advances m.0 n.0
advances st m n word kind =
    ⊎_elim (λ h. same n.0 (ap (λ (x : Seating). x.finished) h.0) (ap (λ (x : Seating). x.closed) h.0))
    (⊎_elim begun (⊎_elim (λ h. same n.0 (ap (λ (x : Seating). x.finished) h.0) (ap (λ (x : Seating). x.closed) h.0)) (⊎_elim finished closed))) kind
  where
    same : (w : Seating) → w.finished ≡ m.0.finished → w.closed ≡ m.0.closed → Advances m.0 w
    same w = stays m.0 w

    begun : Begins st m word n → Advances m.0 n.0
    begun h =
        dite (ℕ_discrete word st.first)
        (λ e. let got = h.0 e in stays m.0 n.0 (ap (λ (x : Seating). x.finished) got.1) (ap (λ (x : Seating). x.closed) got.1))
        (λ ne. let got = h.1 ne in stays m.0 n.0 (ap (λ (x : Seating). x.finished) got.0) (ap (λ (x : Seating). x.closed) got.0))

    finished : Finishes st m word n → Advances m.0 n.0
    finished h = subst (Advances m.0) (sym h.0) (ends (eqb (st.first % 256) 255) m.0.held (in_hand m.1) m.0 refl)

    closed : Closes st m word n → Advances m.0 n.0
    closed h = record {
      closed = omega (arith, ap (λ (x : Seating). x.closed) h.1);
      more = [];
      finished = ap (λ (x : Seating). x.finished) h.1 ∙ sym (append-nil m.0.finished);
      were_open = λ k d lt. absurd (omega (arith, lt));
    }

below_more : (j a b : ℕ) → a ≤ b → below j a ≤ below j b
below_more j a b le = grind (arith, le)

pub may_change : (lanes : List Far) (seat : ℕ) (s t : Board) → IsStep lanes seat s t → MayChange lanes seat s t
may_change lanes seat s t is =
    let v : Seating = is.m.0 in
    let w : Seating = is.n.0 in
    let goes : Advances v w = advances is.step is.m is.n (word_at s is.step.word) is.kind in
    let there : Sits t seat w = ap (λ l. get_elem? l seat) is.views ∙ set_here s.views seat w (place_below s.views seat v is.sits) in
    let others : (j : ℕ) → j ≢ seat → get_elem? t.views j ≡ get_elem? s.views j = λ j ne. ap (λ l. get_elem? l j) is.views ∙ other_place s.views seat j w ne in
    -- what the stints weigh, of all seats
    let weigh : (f : Past → ℕ) → sum_by (λ u. sum_by f u.finished) t.views ≡ sum_by (λ u. sum_by f u.finished) s.views + sum_by f goes.more =
    λ f. omega (
      arith,
      ap (sum_by (λ (u : Seating). sum_by f u.finished)) is.views,
      sum_by-changed (λ (u : Seating). sum_by f u.finished) s.views seat v w is.sits,
      ap (sum_by f) goes.finished,
      sum_by-append f v.finished goes.more,
    ) in
    let count_is : (lane : ℕ) → lane < length lanes → word_at t lane / 256 ≡ word_at s lane / 256 + stints_of lane goes.more =
    λ lane lt. omega (arith, counts lanes t is.after lane lt, counts lanes s is.before lane lt, weigh (at_lane lane (λ p. 1))) in
    let was_open : (lane : ℕ) → 0 < stints_of lane goes.more → (b : Begun) × (stint_at v lane ≡ Some b) =
    λ lane some.
    let p = some_stint (λ q. 1) lane goes.more some in
    let o = All-contains (λ q. (b : Begun) × (stint_at v q.lane ≡ Some b) × (q.number ≡ b.number) × (q.port ≡ b.port)) goes.more p.0 goes.were_open p.1 in
    (o.0, ap (stint_at v) (sym p.2) ∙ o.1) in
    record {
      others = others;
      kept = λ x y here now.
          let P : Seating → Seating → Type 0 = λ x y. (more : List Past) × (y.finished ≡ x.finished ++ more) × WereOpen x more in
          subst (λ x. P x y) (some-injective v x (sym is.sits ∙ here)) (subst (P v) (some-injective w y (sym there ∙ now)) (goes.more, goes.finished, goes.were_open));
      counted = λ lane lt. omega (arith, count_is lane lt);
      ended = λ lane lt more.
          let o = was_open lane (omega (arith, more, count_is lane lt)) in
          (v, o.0, is.sits, o.1);
      held = λ j lane x b ne here e.
          let before = knows lanes s is.before j lane x b here e in
          let after = knows lanes t is.after j lane x b (others j ne ∙ here) e in
          after.is.claimed ∙ sym before.is.claimed;
      over = λ lane lt over.
          let none : stints_of lane goes.more ≡ 0 = nothing lane over (dec_le 1 (stints_of lane goes.more)) (λ some. was_open lane some) in
          let rule = is.after.each_lane lane lt in
          let still : word_at t lane % 256 ≡ 255 =
          ⊎_elim
          (λ some. rule.closed (omega (arith, some, ap (sum_by (closed_by lane)) is.views, sum_by-changed (closed_by lane) s.views seat v w is.sits, below_more lane v.closed w.closed goes.closed)))
          (λ at. given_up (word_at t lane % 256 ≡ 255) (is.after.past lane)
          (omega (arith, at.2, is.before.weighed lane gives_up lt, is.after.weighed lane gives_up lt, weigh (at_lane lane gives_up))) rule.surrendered)
          ((is.before.each_lane lane lt).over over) in
          omega (arith, over, still, none, count_is lane lt);
    }
  where
    nothing : (lane : ℕ) {k : ℕ} → word_at s lane % 256 ≡ 255 → Dec (1 ≤ k) → (0 < k → (b : Begun) × (stint_at is.m.0 lane ≡ Some b)) → k ≡ 0
    nothing lane over (yes some) open_in =
        let b = open_in (omega (arith, some)) in
        let h = knows lanes s is.before seat lane is.m.0 b.0 is.sits b.1 in
        absurd (omega (arith, over, h.is.claimed, h.is.of_port))
    nothing lane over (no few) open_in = omega (arith, few)

pub same_split : (lanes : List Far) (s : Board) (i : ℕ) (v : Seating) → Sits s i v → 1 < v.parts → SameInAll s.views (set s.views i (rest_of v) ++ part_of v ∷ [])
same_split lanes s i v here parts = record {
  parts = omega (arith, parts, sum_by-split (λ u. u.parts) s.views i v (rest_of v) (part_of v) here);
  held = λ f. omega (arith, sum_by-split (λ u. sum_by f u.held) s.views i v (rest_of v) (part_of v) here);
  finished = λ f. omega (arith, sum_by-split (λ u. sum_by f u.finished) s.views i v (rest_of v) (part_of v) here);
}

pub same_join : (lanes : List Far) (s : Board) (i j : ℕ) (v w : Seating) → Sits s i v → Sits s j w → j ≢ i
    → SameInAll s.views (set (set s.views i (after_join v w)) j spent_seating)
same_join lanes s i j v w here there ne =
    let both : Seating = after_join v w in
    let there' : get_elem? (set s.views i both) j ≡ O.some w = other_place s.views i j both ne ∙ there in
    record {
      parts = omega (arith, sum_by-joined (λ u. u.parts) s.views i j v w both spent_seating here there');
      held = λ f. omega (arith, sum_by-append f v.held w.held, sum_by-joined (λ u. sum_by f u.held) s.views i j v w both spent_seating here there');
      finished = λ f. omega (arith, sum_by-append f v.finished w.finished, sum_by-joined (λ u. sum_by f u.finished) s.views i j v w both spent_seating here there');
    }
