-- Lemmas on the lists of a view: events that wait, by rising number.
use Rattle.std.proofs.Common.{◌≡◌, ℕ, zero, suc, ◌+◌, ◌<◌, Bool, true, cond, not, ◌==◌, List, [], ◌∷◌, length, get_or, filter, All, AllPairs, Contains, Some, ap, ◌∙◌, subst, arith}
use Rattle.std.proofs.lemmas.Bool.{cond-true, cond-false}
use Rattle.std.proofs.lemmas.List.Elements.{All-weaker}
use Rattle.transcripts.specs.Standing.{event_in}
use Rattle.evt_types.specs.declared.event.Numbered.{Numbered}
use Rattle.lists.proofs.Lists.{eqb_same, eqb_other, filter-all}

-- the rest of a rising list has other numbers than its first event
pub rest_differs : (w : Numbered) (ws : List Numbered) → AllPairs (λ (u v : Numbered). u.number < v.number) (w ∷ ws) → All (λ (v : Numbered). w.number < v.number) ws
rest_differs w ws rises k d h = rises 0 (suc k) d (omega arith) (omega arith)

pub rest_rises : (w : Numbered) (ws : List Numbered) → AllPairs (λ (u v : Numbered). u.number < v.number) (w ∷ ws) → AllPairs (λ (u v : Numbered). u.number < v.number) ws
rest_rises w ws rises i j d lt within = rises (suc i) (suc j) d (omega arith) (omega arith)

-- the event of a number that waits
pub event_in_at : (ws : List Numbered) (i : ℕ) (d : Numbered) → AllPairs (λ (u v : Numbered). u.number < v.number) ws → i < length ws → event_in ws (get_or ws i d).number ≡ Some (get_or ws i d).event
event_in_at [] i d rises h = absurd (omega arith)
event_in_at (w ∷ ws) zero d rises h = cond-true (w.number == w.number) (Some w.event) (event_in ws w.number) (eqb_same w.number)
event_in_at (w ∷ ws) (suc i) d rises h =
    let lt : w.number < (get_or ws i d).number = rest_differs w ws rises i d (omega arith) in
    cond-false (w.number == (get_or ws i d).number) (Some w.event) (event_in ws (get_or ws i d).number) (eqb_other w.number (get_or ws i d).number (λ e. omega arith))
    ∙ event_in_at ws i d (rest_rises w ws rises) (omega arith)

pub event_in_some : (ws : List Numbered) (w : Numbered) → AllPairs (λ (u v : Numbered). u.number < v.number) ws → Contains ws w → event_in ws w.number ≡ Some w.event
event_in_some ws w rises c = subst (λ (v : Numbered). event_in ws v.number ≡ Some v.event) c.2 (event_in_at ws c.0 w rises c.1)

abbrev other : ℕ → Numbered → Bool
other n v = not (v.number == n)

-- without the event of one number there is one event less
pub one_less_at : (ws : List Numbered) (i : ℕ) (d : Numbered) → AllPairs (λ (u v : Numbered). u.number < v.number) ws → i < length ws → length (filter (λ (v : Numbered). not (v.number == (get_or ws i d).number)) ws) + 1 ≡ length ws
one_less_at [] i d rises h = absurd (omega arith)
one_less_at (w ∷ ws) zero d rises h =
    ap (λ b. length (cond (not b) (w ∷ filter (other w.number) ws) (filter (other w.number) ws)) + 1) (eqb_same w.number)
    ∙ ap (λ us. length us + 1) (filter-all (other w.number) ws (All-weaker (λ (v : Numbered). w.number < v.number) (λ v. other w.number v ≡ true) (λ v lt. ap not (eqb_other v.number w.number (λ e. omega arith))) ws (rest_differs w ws rises)))
    ∙ omega arith
one_less_at (w ∷ ws) (suc i) d rises h =
    let n : ℕ = (get_or ws i d).number in
    let lt : w.number < n = rest_differs w ws rises i d (omega arith) in
    ap (λ b. length (cond (not b) (w ∷ filter (other n) ws) (filter (other n) ws)) + 1) (eqb_other w.number n (λ e. omega arith))
    ∙ omega (arith, one_less_at ws i d (rest_rises w ws rises) (omega arith))

pub one_less : (ws : List Numbered) (w : Numbered) → AllPairs (λ (u v : Numbered). u.number < v.number) ws → Contains ws w → length (filter (λ (v : Numbered). not (v.number == w.number)) ws) + 1 ≡ length ws
one_less ws w rises c = subst (λ (u : Numbered). length (filter (λ (v : Numbered). not (v.number == u.number)) ws) + 1 ≡ length ws) c.2 (one_less_at ws c.0 w rises c.1)
