-- Each kind of step on a port's way keeps the rule, whatever the board is when the word changes, and tells the seat what its `Play` says.
use Rattle.std.proofs.Common.{◌≡◌, ◌≢◌, ℕ, ◌+◌, ◌-◌, ◌*◌, ◌/◌, ◌%◌, ◌<◌, ◌≤◌, ◌⊎◌, inl, inr, ⊎_elim, Bool, true, eqb, List, [], ◌∷◌, ◌++◌, map, length, set, get_or, slice_get, Option, Some, All, Contains, refl, sym, ap, ◌∙◌, subst, arith, eq-eqb, ne_eqb, eqb-true, append-nil, sum_by}
use Rattle.std.proofs.lemmas.List.{set-get_or, length-append}
use Rattle.std.proofs.lemmas.List.Elements.{All-nil, All-cons, All-head, All-tail, All-weaker, All-contains_itself, All-push}
use mathlib.Core.Option as O
use native.Mathlib.Decide.{dec_le}
use lib.ListN.{get_elem?}
use prog.Atomic.{either}
use Rattle.atomic_table.specs.Table.{step, Act, keeps, takes, gives, Valid, homes_after, carried_after, stepped, Allows}
use Rattle.atomic_table.proofs.Lists.{exchanged}
use Rattle.lane_rings.specs.Ends.{unanswered}
use Rattle.lane_rings.specs.declared.far.Far.{Far}
use Rattle.lists.specs.Counts.{count}
use Rattle.std.proofs.lemmas.List.Sums.{sum_by-append}
use Rattle.lists.proofs.SeatSums.{All-at, sum_by-changed, term_le}
use Rattle.flow_claims.specs.declared.seating.Begun.{Begun}
use Rattle.flow_claims.specs.declared.seating.Past.{Past}
use Rattle.flow_claims.specs.declared.seating.Seating.{Seating}
use Rattle.flow_claims.specs.Lists.{lists_of, no_lists, GoesOn, IsOf}
use Rattle.flow_claims.specs.Stints.{IsDone, gives_up}
use Rattle.flow_claims.specs.Seats.{find_lane, without, fronted, slot_of, begun_by, past_of, after_look, after_load, after_begin, after_front}
use Rattle.flow_claims.specs.Rule.{Board, word_at, home_at, busy, opens, closed_by, IsHome, IsLane, IsHeld, IsSeat, Claimed}
use Rattle.flow_claims.specs.Steps.{Sitting, Probes, Begins, Fronts, Finishes, in_hand, ends_first}
use Rattle.flow_claims.proofs.Choices.{get_last}
use Rattle.flow_claims.proofs.Held.{found_has, sum_without, All-without, none_found, none_of_lane, opens_first, opens_other, opens_more, fronted_is}
use Rattle.flow_claims.proofs.Records.{record_more, last_more}
use Rattle.flow_claims.proofs.Slots.{Brings, bring, brings}
use Rattle.flow_claims.proofs.WordReads.{busy_le, busy_free, busy_over, busy_held, reads}
use Rattle.flow_claims.proofs.Moved.{IsSame, reviewed, MayFollow, moved}

-- a word that is read stays
abbrev pub reread : (lanes : List Far) (s : Board) (id lane : ℕ) (w : Seating) → Type 0
reread lanes s id lane w = Claimed lanes (record { words = set s.words lane (word_at s lane); homes = s.homes; views = set s.views id w })

pub rereads : (lanes : List Far) (s : Board) (id lane : ℕ) (v w : Seating) → Claimed lanes s → get_elem? s.views id ≡ O.some v → 0 < v.parts → IsSame v w → reread lanes s id lane w
rereads lanes s id lane v w c me part same =
    let P : List ℕ → Type 0 = λ ws. Claimed lanes (record { words = ws; homes = s.homes; views = set s.views id w }) in
    subst P (sym (set-get_or s.words lane 0)) (reviewed lanes s id v w c me part same)

pub same_stints : (v w : Seating) → w.parts ≡ v.parts → w.lanes ≡ v.lanes → w.finished ≡ v.finished → w.closed ≡ v.closed → w.held ≡ v.held → IsSame v w
same_stints v w a b c d e = record {
  parts = a;
  lanes = b;
  finished = c;
  closed = d;
  opens_same = λ lane. ap (opens lane) e;
  held = subst (All (Contains v.held)) (sym e) (All-contains_itself v.held);
}

pub probes : (lanes : List Far) (slots id lane : ℕ) (me : Sitting) → 0 < me.0.parts → lane < length lanes
    → Allows (Claimed lanes) slots id me lane (λ n. n) (Probes (step slots lane 0 0 O.none) me)
probes lanes slots id lane me part lt s c count_is here small =
    let w : Seating = after_load lane (word_at s lane) me.0 in (
      w,
      keeps,
      tt,
      rereads lanes s id lane me.0 w c here part (same_stints me.0 w refl refl refl refl refl),
      (refl, refl, reads lanes s id me.0 c here lane lt),
    )

none_past : (n j : ℕ) (bs : List Begun) → n ≤ j → All (λ x. x.lane < n) bs → opens j bs ≡ 0
none_past n j [] ge all = refl
none_past n j (x ∷ xs) ge all =
    omega (arith, opens_more j x xs, ap count (ne_eqb x.lane j (λ e. absurd (omega (arith, e, ge, All-head (λ y. y.lane < n) x xs all)))), none_past n j xs ge (All-tail (λ y. y.lane < n) x xs all))

-- a seat has no two stints of a lane
pub at_most_one : (lanes : List Far) (s : Board) (id : ℕ) (v : Seating) (c : Claimed lanes s) → get_elem? s.views id ≡ O.some v
    → All (λ x. x.lane < length lanes) v.held → (j : ℕ) → opens j v.held ≤ 1
at_most_one lanes s id v c here within j = by (dec_le (length lanes) j)
  where
    by : Dec (length lanes ≤ j) → opens j v.held ≤ 1
    by (yes ge) = omega (arith, none_past (length lanes) j v.held ge within)
    by (no lt) = omega (arith, c.one_holder j (omega (arith, lt)), term_le (λ u. opens j u.held) s.views id v here, busy_le (word_at s j))

-- the slot of a lane whose stint the seat has comes before the others that it has
pub fronts : (lanes : List Far) (slots id lane : ℕ) (me : Sitting) (b : Begun) → 0 < me.0.parts
    → me.1 ≡ map slot_of me.0.held → find_lane lane me.0.held ≡ Some b
    → Allows (Claimed lanes) slots id me lane (λ n. n) (Fronts (step slots lane 0 0 O.none) me)
fronts lanes slots id lane me b part slots_are found s c count_is here small =
    let v : Seating = me.0 in
    let own : IsSeat lanes s.words s.homes c.past v = All-at (IsSeat lanes s.words s.homes c.past) s.views id v c.each_seat here in
    let Held : Begun → Type 0 = λ x. (x.lane < length lanes) × IsHeld (get_or s.words x.lane 0) (get_elem? s.homes x.lane) (c.past x.lane) x in
    let Out : Begun → Type 0 = λ x. get_elem? s.homes x.lane ≡ O.some O.none in
    let out : All Out v.held = All-weaker Held Out (λ x k. k.1.away) v.held own.held in
    let few : (j : ℕ) → opens j v.held ≤ 1 = at_most_one lanes s id v c here (All-weaker Held (λ x. x.lane < length lanes) (λ x k. k.0) v.held own.held) in
    let does : Brings s.homes lane v.held (bring lane v.held) (fronted lane v.held) = brings s.homes lane v.held b found few out in
    let w : Seating = after_front lane v in
    let is : fronted lane v.held ≡ b ∷ without lane v.held = fronted_is lane v.held b found in
    let same : IsSame v w = record {
      parts = refl;
      lanes = refl;
      finished = refl;
      closed = refl;
      opens_same = λ j. ap (opens j) is ∙ opens_more j b (without lane v.held) ∙ sum_without (λ x. count (eqb x.lane j)) lane v.held b found;
      held = subst (All (Contains v.held)) (sym is)
          (All-cons (Contains v.held) b (without lane v.held) (found_has (Contains v.held) lane v.held b (All-contains_itself v.held) found)
          (All-without (Contains v.held) lane v.held (All-contains_itself v.held)));
    } in
    let P : List (O.Option (Option Far)) → Type 0 = λ hs. Claimed lanes (record { words = set s.words lane (word_at s lane); homes = hs; views = set s.views id w }) in
    let slots' : List (ℕ × Option Far) → Type 0 = λ c. Valid s.homes c (bring lane v.held) in (
      w,
      bring lane v.held,
      subst slots' (sym slots_are) does.valid,
      subst P (sym (ap (λ c. homes_after s.homes c (bring lane v.held)) slots_are ∙ does.home)) (rereads lanes s id lane v w c here part same),
      (refl, ap (λ c. carried_after c (bring lane v.held)) slots_are ∙ does.slots),
    )

-- what a step owes where the word becomes k
abbrev Owes : (lanes : List Far) → (ℕ → Sitting → Type 0) → ℕ → ℕ → Board → Sitting → ℕ → Type 0
Owes lanes then lane id s me k =
    (w : Seating) × (a : Act (Option Far)) × Valid s.homes me.1 a × Claimed lanes (stepped s lane k id me.1 w a) × then (word_at s lane) (w, carried_after me.1 a)

begin_follows : (lanes : List Far) (s : Board) (id lane port : ℕ) (v : Seating) (far : Far) → (c : Claimed lanes s) → get_elem? s.views id ≡ O.some v → 0 < v.parts
    → port < 254 → lane < length lanes → word_at s lane % 256 ≡ 0 → IsHome lanes lane (home_at s lane) (c.past lane) far
    → MayFollow lanes s c.past id lane (word_at s lane + port + 1) O.none v (after_begin (begun_by port lane (word_at s lane / 256) far) (after_look lane (word_at s lane) v)) []
begin_follows lanes s id lane port v far c here part small lt free home =
    let word : ℕ = word_at s lane in
    let b : Begun = begun_by port lane (word / 256) far in
    let w : Seating = after_begin b (after_look lane word v) in
    let same : c.past lane ++ [] ≡ c.past lane = append-nil (c.past lane) in
    let none : opens lane v.held ≡ 0 = omega (arith, c.one_holder lane lt, term_le (λ u. opens lane u.held) s.views id v here, busy_free word free) in
    let is = c.each_lane lane lt in
    let IsIt : List Past → Type 0 = λ ps. IsLane lanes lane (word + port + 1) (O.some O.none) (sum_by (closed_by lane) (set s.views id w)) ps in
    let HeldBy : List Past → Type 0 = λ ps. IsHeld (word + port + 1) (O.some O.none) ps b in
    let others : All (λ x. x.lane ≢ lane) v.held = none_of_lane lane v.held none in
    record {
      has_part = part;
      parts = refl;
      lanes_same = refl;
      closed = λ j ne. refl;
      finished = sym (append-nil v.finished);
      of_lane = All-nil (λ p. p.lane ≡ lane);
      placed = All-nil (λ p. slice_get (c.past lane ++ []) p.number ≡ Some p);
      lane_is = subst IsIt (sym same) (record {
        recorded = is.recorded;
        counted = omega (arith, is.counted, free, small);
        done = is.done;
        final = is.final;
        closed = λ some. absurd (omega (arith, free, is.closed (omega (arith, some, sum_by-changed (closed_by lane) s.views id v w here))));
        surrendered = All-weaker (λ p. p.surrendered ≡ true → word % 256 ≡ 255) (λ p. p.surrendered ≡ true → (word + port + 1) % 256 ≡ 255)
            (λ p over gone. absurd (omega (arith, free, over gone))) (c.past lane) is.surrendered;
        free = λ z. absurd (omega (arith, z, free, small));
        over = λ z. absurd (omega (arith, z, free, small));
      });
      only_holder = omega (arith, none, busy_free word free);
      holder = omega (arith, opens_first lane b v.held refl, none, busy_held (word + port + 1) (λ z. absurd (omega (arith, z, free, small))) (λ z. absurd (omega (arith, z, free, small))));
      others = λ j ne. opens_other lane j b v.held refl ne;
      held_here = All-cons (λ x. x.lane ≡ lane → IsHeld (word + port + 1) (O.some O.none) (c.past lane ++ []) x) b v.held
          (λ _. subst HeldBy (sym same) (record { of_port = small; claimed = omega (arith, free); start = home.2; away = refl }))
          (All-weaker (λ x. x.lane ≢ lane) (λ x. x.lane ≡ lane → IsHeld (word + port + 1) (O.some O.none) (c.past lane ++ []) x) (λ x ne e. absurd (ne e)) v.held others);
      held_others = All-cons (λ x. x.lane ≢ lane → Contains v.held x) b v.held (λ ne. absurd (ne refl))
          (All-weaker (Contains v.held) (λ x. x.lane ≢ lane → Contains v.held x) (λ x at _. at) v.held (All-contains_itself v.held));
    }

pub begins : (lanes : List Far) (slots id lane port old : ℕ) (me : Sitting) → 0 < me.0.parts → me.0.lanes ≡ lanes → port < 254 → lane < length lanes → old % 256 ≡ 0
    → Allows (Claimed lanes) slots id me lane (λ k. either (eqb k old) (old + port + 1) k) (Begins (step slots lane old (old + port + 1) O.none) me)
begins lanes slots id lane port old me part lanes_are small lt free s c count_is here fits =
    let v : Seating = me.0 in
    let word : ℕ = word_at s lane in
    let Then : ℕ → Sitting → Type 0 = Begins (step slots lane old (old + port + 1) O.none) me in
    exchanged word old (old + port + 1) (Owes lanes Then lane id s me)
    (λ e.
    let found = (c.each_lane lane lt).free (ap (λ k. k % 256) e ∙ free) in
    let far : Far = found.0 in
    let p : ℕ = old + port + 1 - old - 1 in
    let same_port : p ≡ port = omega arith in
    let b : Begun = begun_by p lane (word / 256) far in
    let w : Seating = after_begin b (after_look lane word v) in
    let kept : Claimed lanes (record { words = set s.words lane (word + p + 1); homes = set s.homes lane O.none; views = set s.views id w }) =
    moved lanes s id lane (word + p + 1) O.none v w [] c here lt
    (begin_follows lanes s id lane p v far c here part (omega (arith, same_port, small)) lt (ap (λ k. k % 256) e ∙ free) found.1) in
    let Kept : ℕ → Type 0 = λ n. Claimed lanes (record { words = set s.words lane n; homes = set s.homes lane O.none; views = set s.views id w }) in
    let Of : List Far → Type 0 = λ ls. IsOf ls lane far in (
      w,
      takes lane (Some far),
      found.1.0,
      subst Kept (omega (arith, e, same_port)) kept,
      ((λ _. (far, refl, refl, subst Of (sym lanes_are) found.1.1, found.2)), (λ ne. absurd (ne e)), reads lanes s id v c here lane lt),
    ))
    (λ ne.
    let w : Seating = after_look lane word v in (
      w,
      keeps,
      tt,
      rereads lanes s id lane v w c here part (same_stints v w refl refl refl refl refl),
      ((λ e. absurd (ne e)), (λ _. (refl, refl)), reads lanes s id v c here lane lt),
    ))

-- the lane's word, where the first stint of a seat is the lane's
record Holding (lanes : List Far) (s : Board) (past : ℕ → List Past) (lane : ℕ) (b : Begun) (bs : List Begun) : Type 0 where
  held : IsHeld (word_at s lane) (home_at s lane) (past lane) b
  alone : opens lane bs ≡ 0
  busy_is : busy (word_at s lane) ≡ 1

holding : (lanes : List Far) (s : Board) (id lane : ℕ) (v : Seating) (b : Begun) (bs : List Begun) (c : Claimed lanes s) → get_elem? s.views id ≡ O.some v
    → v.held ≡ b ∷ bs → b.lane ≡ lane → lane < length lanes → Holding lanes s c.past lane b bs
holding lanes s id lane v b bs c here held_is lane_is lt =
    let own : IsSeat lanes s.words s.homes c.past v = All-at (IsSeat lanes s.words s.homes c.past) s.views id v c.each_seat here in
    let Held : Begun → Type 0 = λ x. (x.lane < length lanes) × IsHeld (get_or s.words x.lane 0) (get_elem? s.homes x.lane) (c.past x.lane) x in
    let first : Held b = All-head Held b bs (subst (All Held) held_is own.held) in
    let At : ℕ → Type 0 = λ j. IsHeld (get_or s.words j 0) (get_elem? s.homes j) (c.past j) b in
    let is : IsHeld (word_at s lane) (home_at s lane) (c.past lane) b = subst At lane_is first.1 in
    let one : busy (word_at s lane) ≡ 1 = busy_held (word_at s lane) (λ z. absurd (omega (arith, z, is.claimed, is.of_port))) (λ z. absurd (omega (arith, z, is.claimed, is.of_port))) in
    record {
      held = is;
      alone = omega (arith, c.one_holder lane lt, term_le (λ u. opens lane u.held) s.views id v here, ap (opens lane) held_is, opens_first lane b bs lane_is, one);
      busy_is = one;
    }

finish_follows : (lanes : List Far) (s : Board) (id lane tail : ℕ) (gone : Bool) (v : Seating) (b : Begun) (bs : List Begun) (far : Far) → (c : Claimed lanes s) → get_elem? s.views id ≡ O.some v → 0 < v.parts
    → v.held ≡ b ∷ bs → b.lane ≡ lane → lane < length lanes → GoesOn b.start (lists_of far) → IsOf lanes lane far → ((tail ≡ 0) × (unanswered far ≡ [])) ⊎ (tail ≡ 255)
    → Holding lanes s c.past lane b bs → (gone ≡ true → tail ≡ 255) → (tail ≡ 255 → gone ≡ true)
    → MayFollow lanes s c.past id lane (256 * (b.number + 1) + tail) (O.some (Some far)) v (record v { held = bs; finished = v.finished ++ past_of gone b far ∷ [] }) (past_of gone b far ∷ [])
finish_follows lanes s id lane tail gone v b bs far c here part held_is lane_is lt goes_on of_lane how holds gone_is over_is =
    let word : ℕ = word_at s lane in
    let n : ℕ = 256 * (b.number + 1) + tail in
    let p : Past = past_of gone b far in
    let w : Seating = record v { held = bs; finished = v.finished ++ p ∷ [] } in
    let mine : List Past = c.past lane ++ p ∷ [] in
    let is = c.each_lane lane lt in
    let tail_is : (tail ≡ 0) ⊎ (tail ≡ 255) = ⊎_elim (λ h. inl h.0) inr how in
    let small : tail < 256 = ⊎_elim (λ h. omega (arith, h)) (λ h. omega (arith, h)) tail_is in
    let number_is : b.number ≡ length (c.past lane) = omega (arith, is.counted, holds.held.claimed, holds.held.of_port) in
    let tail_of : n % 256 ≡ tail = omega (arith, small) in
    let free_now : busy n ≡ 0 = ⊎_elim (λ h. busy_free n (omega (arith, h))) (λ h. busy_over n (omega (arith, h))) tail_is in
    let home : IsHome lanes lane (O.some (O.some (Some far))) mine far = (refl, of_lane, sym (last_more no_lists (c.past lane) p)) in
    let others : All (λ x. x.lane ≢ lane) bs = none_of_lane lane bs holds.alone in
    let in_held : All (Contains v.held) bs = All-tail (Contains v.held) b bs (subst (All (Contains v.held)) held_is (All-contains_itself v.held)) in
    let not_over : word % 256 ≡ 255 → ⊥ = λ e. omega (arith, e, holds.held.claimed, holds.held.of_port) in
    let answered_where : n % 256 ≡ 0 → unanswered far ≡ [] = λ z. ⊎_elim (λ h. h.1) (λ h. absurd (omega (arith, z, h))) how in
    record {
      has_part = part;
      parts = refl;
      lanes_same = refl;
      closed = λ j ne. refl;
      finished = refl;
      of_lane = All-cons (λ q. q.lane ≡ lane) p [] lane_is (All-nil (λ q. q.lane ≡ lane));
      placed = All-cons (λ q. slice_get mine q.number ≡ Some q) p [] (get_last (c.past lane) p b.number number_is) (All-nil (λ q. slice_get mine q.number ≡ Some q));
      lane_is = record {
        recorded = record_more lane 0 no_lists (c.past lane) p is.recorded lane_is (omega (arith, number_is)) holds.held.start goes_on;
        counted = omega (arith, length-append (c.past lane) (p ∷ []), number_is, small);
        done = All-push IsDone (c.past lane) p is.done (record { of_port = holds.held.of_port; given_back = λ e. ⊎_elim (λ h. h.1) (λ h. absurd (omega (arith, ap count (sym e ∙ over_is h)))) how });
        closed = λ some. absurd (not_over (is.closed (omega (arith, some, sum_by-changed (closed_by lane) s.views id v w here))));
        final = All-push (λ q. q.surrendered ≡ true → q.number + 1 ≡ length mine) (c.past lane) p
            (All-weaker (λ q. q.surrendered ≡ true → word % 256 ≡ 255) (λ q. q.surrendered ≡ true → q.number + 1 ≡ length mine) (λ q over g. absurd (not_over (over g))) (c.past lane) is.surrendered)
            (λ g. omega (arith, length-append (c.past lane) (p ∷ []), number_is));
        surrendered = All-push (λ q. q.surrendered ≡ true → n % 256 ≡ 255) (c.past lane) p
            (All-weaker (λ q. q.surrendered ≡ true → word % 256 ≡ 255) (λ q. q.surrendered ≡ true → n % 256 ≡ 255) (λ q over g. absurd (not_over (over g))) (c.past lane) is.surrendered)
            (λ g. omega (arith, gone_is g));
        free = λ z. (far, home, answered_where z);
        over = λ z. inr (far, home, omega (arith, sum_by-append gives_up (c.past lane) (p ∷ []), ap count (over_is (omega (arith, z, tail_of)))));
      };
      only_holder = omega (arith, ap (opens lane) held_is, opens_first lane b bs lane_is, holds.alone, holds.busy_is);
      holder = omega (arith, holds.alone, free_now);
      others = λ j ne. omega (arith, ap (opens j) held_is, opens_other lane j b bs lane_is ne);
      held_here = All-weaker (λ x. x.lane ≢ lane) (λ x. x.lane ≡ lane → IsHeld n (O.some (O.some (Some far))) mine x) (λ x ne e. absurd (ne e)) bs others;
      held_others = All-weaker (Contains v.held) (λ x. x.lane ≢ lane → Contains v.held x) (λ x at _. at) bs in_held;
    }

pub finishes : (lanes : List Far) (slots id lane number tail : ℕ) (me : Sitting) (b : Begun) (bs : List Begun) (far : Far) → 0 < me.0.parts
    → me.0.held ≡ b ∷ bs → me.1 ≡ (lane, Some far) ∷ map slot_of bs → b.lane ≡ lane → b.number ≡ number → lane < length lanes
    → GoesOn b.start (lists_of far) → IsOf lanes lane far → ((tail ≡ 0) × (unanswered far ≡ [])) ⊎ (tail ≡ 255)
    → Allows (Claimed lanes) slots id me lane (λ _. 256 * (number + 1) + tail) (λ _. Finishes (step slots lane (256 * (number + 1) + tail) 0 O.none) me (256 * (number + 1) + tail))
finishes lanes slots id lane number tail me b bs far part held_is slots_is lane_is number_is lt goes_on of_lane how s c count_is here fits =
    let v : Seating = me.0 in
    let gone : Bool = eqb ((256 * (number + 1) + tail) % 256) 255 in
    let gone_is : gone ≡ true → tail ≡ 255 = λ e. ⊎_elim (λ h. absurd (omega (arith, eqb-true ((256 * (number + 1) + tail) % 256) 255 e, h.0))) (λ h. h) how in
    let over_is : tail ≡ 255 → gone ≡ true = λ h. eq-eqb ((256 * (number + 1) + tail) % 256) 255 (omega (arith, h)) in
    let holds = holding lanes s id lane v b bs c here held_is lane_is lt in
    let w : Seating = record v { held = bs; finished = v.finished ++ past_of gone b far ∷ [] } in
    let kept : Claimed lanes (record { words = set s.words lane (256 * (b.number + 1) + tail); homes = set s.homes lane (O.some (Some far)); views = set s.views id w }) =
    moved lanes s id lane (256 * (b.number + 1) + tail) (O.some (Some far)) v w (past_of gone b far ∷ []) c here lt
    (finish_follows lanes s id lane tail gone v b bs far c here part held_is lane_is lt goes_on of_lane how holds gone_is over_is) in
    let Words : ℕ → Type 0 = λ k. Claimed lanes (record { words = set s.words lane (256 * (k + 1) + tail); homes = set s.homes lane (O.some (Some far)); views = set s.views id w }) in
    let Homes : List (O.Option (Option Far)) → Type 0 = λ hs. Claimed lanes (record { words = set s.words lane (256 * (number + 1) + tail); homes = hs; views = set s.views id w }) in
    let ends : ends_first gone v.held (in_hand me.1) v ≡ w = ap (λ (o : List Begun). ends_first gone o (in_hand me.1) v) held_is ∙ ap (λ (x : List (ℕ × Option Far)). ends_first gone (b ∷ bs) (in_hand x) v) slots_is in (
      w,
      gives,
      tt,
      subst Homes (sym (ap (λ (x : List (ℕ × Option Far)). homes_after s.homes x gives) slots_is)) (subst Words number_is kept),
      (sym ends, refl, none_found lane bs holds.alone),
    )
