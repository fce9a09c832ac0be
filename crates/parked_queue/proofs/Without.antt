-- A rising list without the event of a number.
use Rattle.std.proofs.Common.{◌≡◌, ◌≢◌, ℕ, ◌<◌, true, not, cond, List, [], ◌∷◌, ◌++◌, drop, filter, All, slice_get, sym, ap, ◌∙◌, arith, eqb-true}
use Rattle.std.proofs.lemmas.Bool.{false≢true}
use Rattle.std.proofs.lemmas.List.{set-get_or}
use Rattle.std.proofs.lemmas.List.Elements.{All-head, All-weaker}
use Rattle.lists.proofs.Lists.{All-back, eqb_other, eqb_same, filter-all}
use Rattle.evt_types.specs.declared.event.Numbered.{Numbered}
use Rattle.parked_queue.specs.Lists.{Lists, has_number, list_at, with_list}
use Rattle.parked_queue.specs.Waits.{IsRising, is_other}
use Rattle.parked_queue.proofs.Merges.{rest_higher, rest_rises}

pub list_same : (l : Lists) (k : ℕ) → with_list l k (list_at l k) ≡ l
list_same l k = ap (λ ls. record l { lists = ls }) (set-get_or l.lists k [])

-- no event has the number
pub none_out : (n : ℕ) (ws : List Numbered) → All (λ (w : Numbered). w.number ≢ n) ws → filter (is_other n) ws ≡ ws
none_out n ws none = filter-all (is_other n) ws (All-weaker (λ (u : Numbered). u.number ≢ n) (λ u. is_other n u ≡ true) (λ u ne. ap not (eqb_other u.number n ne)) ws none)

-- the first event has it
pub first_out : (n : ℕ) (ws : List Numbered) → IsRising ws → has_number n (slice_get ws 0) ≡ true → drop 1 ws ≡ filter (is_other n) ws
first_out n [] rises has = absurd (false≢true has)
first_out n (v ∷ ws) rises has =
    let same : v.number ≡ n = eqb-true v.number n has in
    sym
    (ap (λ b. cond (not b) (v ∷ filter (is_other n) ws) (filter (is_other n) ws)) has
    ∙ none_out n ws (All-weaker (λ (u : Numbered). v.number < u.number) (λ u. u.number ≢ n) (λ u lt f. omega arith) ws (rest_higher v ws rises)))

-- an event among others has it
pub one_out : (w : Numbered) (us vs : List Numbered) → IsRising (us ++ w ∷ vs) → filter (is_other w.number) (us ++ w ∷ vs) ≡ us ++ vs
one_out w [] vs rises = sym (first_out w.number (w ∷ vs) rises (eqb_same w.number))
one_out w (u ∷ us) vs rises =
    let higher : u.number < w.number =
    All-head (λ (v : Numbered). u.number < v.number) w vs (All-back (λ (v : Numbered). u.number < v.number) us (w ∷ vs) (rest_higher u (us ++ w ∷ vs) rises)) in
    ap (λ b. cond (not b) (u ∷ filter (is_other w.number) (us ++ w ∷ vs)) (filter (is_other w.number) (us ++ w ∷ vs))) (eqb_other u.number w.number (λ e. omega arith))
    ∙ ap (λ ws. u ∷ ws) (one_out w us vs (rest_rises u (us ++ w ∷ vs) rises))
