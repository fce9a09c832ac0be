-- What a lane's word tells a seat: of its own stints, and with all parts of all stints.
use Rattle.std.proofs.Common.{◌≡◌, ◌≢◌, ℕ, ◌/◌, ◌%◌, ◌<◌, ◌≤◌, ⊎_elim, Bool, true, false, cond, eqb, List, [], ◌∷◌, length, get_or, All, refl, sym, ap, ◌∙◌, subst, arith, sum_by, eq-eqb, ne_eqb}
use Rattle.std.proofs.lemmas.List.Sums.{sum_by-cons}
use Rattle.std.proofs.lemmas.List.Elements.{All-head, All-tail, All-weaker}
use mathlib.Core.Option as O
use lib.ListN.{get_elem?}
use Rattle.lane_rings.specs.declared.far.Far.{Far}
use Rattle.lists.specs.Counts.{count}
use Rattle.lists.proofs.SeatSums.{All-at, all_of, term_le}
use Rattle.flow_claims.specs.declared.seating.Begun.{Begun}
use Rattle.flow_claims.specs.declared.seating.Past.{Past}
use Rattle.flow_claims.specs.declared.seating.Seating.{Seating}
use Rattle.flow_claims.specs.Stints.{at_lane, gives_up, stints_of, below}
use Rattle.flow_claims.specs.Seats.{IsLeft}
use Rattle.flow_claims.specs.Rule.{Board, word_at, home_at, busy, opens, closed_by, IsLane, IsHeld, IsSpent, IsSeat, Claimed}
use Rattle.flow_claims.specs.Steps.{Reads}
use Rattle.flow_claims.proofs.Choices.{by_number}
use Rattle.flow_claims.proofs.Held.{found_lane, found_has, none_open}

-- how many ports have a lane, by its word
pub busy_le : (word : ℕ) → busy word ≤ 1
busy_le word = by (eqb (word % 256) 0) (eqb (word % 256) 255)
  where
    by : (a b : Bool) → cond {A = ℕ} a 0 (cond {A = ℕ} b 0 1) ≤ 1
    by true b = omega arith
    by false true = omega arith
    by false false = omega arith

pub busy_free : (word : ℕ) → word % 256 ≡ 0 → busy word ≡ 0
busy_free word e = let F : Bool → ℕ = λ t. cond t 0 (cond (eqb (word % 256) 255) 0 1) in ap F (eq-eqb (word % 256) 0 e)

pub busy_over : (word : ℕ) → word % 256 ≡ 255 → busy word ≡ 0
busy_over word e =
    let F : Bool → ℕ = λ t. cond t 0 (cond (eqb (word % 256) 255) 0 1) in let G : Bool → ℕ = λ t. cond t 0 1 in
    ap F (ne_eqb (word % 256) 0 (λ z. absurd (omega (arith, e, z)))) ∙ ap G (eq-eqb (word % 256) 255 e)

pub busy_held : (word : ℕ) → word % 256 ≢ 0 → word % 256 ≢ 255 → busy word ≡ 1
busy_held word n m =
    let F : Bool → ℕ = λ t. cond t 0 (cond (eqb (word % 256) 255) 0 1) in let G : Bool → ℕ = λ t. cond t 0 1 in
    ap F (ne_eqb (word % 256) 0 n) ∙ ap G (ne_eqb (word % 256) 255 m)

-- no number is below 0, and none that is n or more below n
pub not_below : (a b : ℕ) → b ≤ a → below a b ≡ 0
not_below a b h = grind (arith, h)

-- what follows of each stint that surrendered its lane follows where there is one
pub given_up : (Q : Type 0) (ps : List Past) → 0 < sum_by gives_up ps → All (λ p. p.surrendered ≡ true → Q) ps → Q
given_up Q [] some all = absurd (omega (arith, some))
given_up Q (p ∷ ps) some all =
    by p.surrendered refl (All-head (λ q. q.surrendered ≡ true → Q) p ps all) (λ more. given_up Q ps more (All-tail (λ q. q.surrendered ≡ true → Q) p ps all))
  where
    by : (t : Bool) → p.surrendered ≡ t → (p.surrendered ≡ true → Q) → (0 < sum_by gives_up ps → Q) → Q
    by true e here there = here e
    by false e here there = there (omega (arith, some, sum_by-cons gives_up p ps, ap count e))

-- how many elements a list has
pub sum_of_ones : {A : Type 0} (xs : List A) → sum_by (λ x. 1) xs ≡ length xs
sum_of_ones [] = refl
sum_of_ones {A = A} (x ∷ xs) = omega (arith, sum_of_ones xs, sum_by-cons (λ (y : A). 1) x xs)

module _ (lanes : List Far) (s : Board) (id : ℕ) (v : Seating) (c : Claimed lanes s) (here : get_elem? s.views id ≡ O.some v) where
  -- with all parts, the seat has all of whatever a seat without parts has nothing of
  pub sum_of_all : v.parts ≡ 64 → (f : Seating → ℕ) → ((u : Seating) → IsSpent u → f u ≡ 0) → sum_by f s.views ≡ f v
  sum_of_all whole f none =
      all_of (λ u. u.parts) IsSpent 64 s.views id v
      (All-weaker (IsSeat lanes s.words s.homes c.past) (λ u. u.parts ≡ 0 → IsSpent u) (λ u is. is.idle) s.views c.each_seat) c.parts here whole f none

  pub all_finished : v.parts ≡ 64 → (f : Past → ℕ) → sum_by (λ u. sum_by f u.finished) s.views ≡ sum_by f v.finished
  all_finished whole f = sum_of_all whole (λ u. sum_by f u.finished) (λ u spent. ap (sum_by f) spent.finished)

  -- then nobody closed a lane that the seat didn't
  pub none_closed : (lane : ℕ) → v.parts ≡ 64 → v.closed ≤ lane → sum_by (closed_by lane) s.views ≡ 0
  none_closed lane whole le =
      sum_of_all whole (closed_by lane) (λ u spent. ap (below lane) spent.closed ∙ not_below lane 0 (omega arith)) ∙ not_below lane v.closed le

  -- and a port has the lane where the seat has a stint of it
  pub busy_is : (lane : ℕ) → v.parts ≡ 64 → lane < length lanes → busy (word_at s lane) ≡ opens lane v.held
  busy_is lane whole lt = sym (c.one_holder lane lt) ∙ sum_of_all whole (λ u. opens lane u.held) (λ u spent. ap (opens lane) spent.held)

  -- the number of the lane's finished stints is that of its word
  pub counted_all : (lane : ℕ) → v.parts ≡ 64 → lane < length lanes → word_at s lane / 256 ≡ stints_of lane v.finished
  counted_all lane whole lt =
      omega (arith, (c.each_lane lane lt).counted, c.weighed lane (λ p. 1) lt, all_finished whole (at_lane lane (λ p. 1)), sum_of_ones (c.past lane))

  left_free : (lane : ℕ) → v.parts ≡ 64 → lane < length lanes → v.closed ≤ lane → IsLeft lane v → word_at s lane % 256 ≡ 0
  left_free lane whole lt le left =
      by_number (word_at s lane % 256) 0 (λ t. word_at s lane % 256 ≡ 0) (λ e. e)
      (λ ne. by_number (word_at s lane % 256) 255 (λ t. word_at s lane % 256 ≡ 0)
      (λ e. ⊎_elim (λ some. absurd (omega (arith, some, none_closed lane whole le)))
      (λ at. absurd (omega (arith, at.2, c.weighed lane gives_up lt, all_finished whole (at_lane lane gives_up), left.not_surrendered))) ((c.each_lane lane lt).over e))
      (λ no. absurd (omega (arith, busy_held (word_at s lane) ne no, busy_is lane whole lt, none_open lane v.held left.not_held))))

  pub reads : (lane : ℕ) → lane < length lanes → Reads lane (word_at s lane) v
  reads lane lt =
      let own : IsSeat lanes s.words s.homes c.past v = All-at (IsSeat lanes s.words s.homes c.past) s.views id v c.each_seat here in
      let Held : Begun → Type 0 = λ b. (b.lane < length lanes) × IsHeld (get_or s.words b.lane 0) (get_elem? s.homes b.lane) (c.past b.lane) b in
      let is : IsLane lanes lane (word_at s lane) (home_at s lane) (sum_by (closed_by lane) s.views) (c.past lane) = c.each_lane lane lt in
      record {
        parts = omega (arith, c.parts, term_le (λ u. u.parts) s.views id v here);
        held = λ b found.
            let At : ℕ → Type 0 = λ j. IsHeld (get_or s.words j 0) (get_elem? s.homes j) (c.past j) b in
            let k : IsHeld (word_at s lane) (home_at s lane) (c.past lane) b = subst At (found_lane lane v.held b found) (found_has Held lane v.held b own.held found).1 in
            (k.claimed, k.of_port);
        surrendered = λ some.
            given_up (word_at s lane % 256 ≡ 255) (c.past lane)
            (omega (arith, some, c.weighed lane gives_up lt, term_le (λ u. sum_by (at_lane lane gives_up) u.finished) s.views id v here)) is.surrendered;
        counted = λ whole. counted_all lane whole lt;
        free = λ whole le left. left_free lane whole lt le left;
      }
