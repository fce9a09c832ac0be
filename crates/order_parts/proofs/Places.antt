-- The places, read off the fields.
use Rattle.std.proofs.Common.{◌≡◌, ◌≢◌, ℕ, ◌<◌, Bool, false, true, not, List, [], ◌∷◌, ◌++◌, length, refl, ap, ap₂, sym, ◌∙◌, Some, None, zero, suc, slice_get, slice_set, slice_index_or, IsTrue, arith}
use Rattle.std.proofs.lemmas.Option.{same_Some, none-some}
use Rattle.evt_types.specs.Place.{Place}
use Rattle.evt_types.specs.declared.event.Event.{Event}
use Rattle.order_parts.specs.Reorder.{place_of, places_by, oldest_answered, is_open, open_place}
use Rattle.order_parts.specs.declared.reorder.Handed.{Handed}

-- which events each place keeps: how many of those in its row
abbrev pub Rows : Type 0
Rows = ℕ → ℕ → List Event

-- ---- the places one by one

pub places_length : (row : Rows) (hs : List Handed) → length (places_by row hs) ≡ length hs
places_length row [] = refl
places_length row (h ∷ hs) = ap suc (places_length (λ i. row (suc i)) hs)

pub place_there : (row : Rows) (hs : List Handed) (i : ℕ) (h : Handed) → slice_get hs i ≡ Some h → slice_get (places_by row hs) i ≡ Some (place_of (row i h.kept) h)
place_there row [] i h there = absurd (none-some h there)
place_there row (x ∷ hs) zero h there = ap (λ (y : Handed). Some (place_of (row 0 y.kept) y)) (same_Some x h there)
place_there row (x ∷ hs) (suc i) h there = place_there (λ k. row (suc k)) hs i h there

pub no_place : (row : Rows) (hs : List Handed) (i : ℕ) → slice_get hs i ≡ None → slice_get (places_by row hs) i ≡ None
no_place row [] i none = refl
no_place row (x ∷ hs) zero none = absurd (none-some x (sym none))
no_place row (x ∷ hs) (suc i) none = no_place (λ k. row (suc k)) hs i none

pub place_none : (row : Rows) (hs : List Handed) (i : ℕ) (d : Place) → slice_get hs i ≡ None → slice_index_or (places_by row hs) i d ≡ d
place_none row [] i d none = refl
place_none row (x ∷ hs) zero d none = absurd (none-some x (sym none))
place_none row (x ∷ hs) (suc i) d none = place_none (λ k. row (suc k)) hs i d none

-- ---- what a change of the fields leaves of the places

-- other rows with the same events
pub places_stay : (row other : Rows) (hs : List Handed) → ((k : ℕ) (y : Handed) → slice_get hs k ≡ Some y → other k y.kept ≡ row k y.kept) → places_by other hs ≡ places_by row hs
places_stay row other [] same = refl
places_stay row other (h ∷ hs) same =
    ap₂ (λ (es : List Event) (ps : List Place). place_of es h ∷ ps) (same 0 h refl) (places_stay (λ i. row (suc i)) (λ i. other (suc i)) hs (λ k y there. same (suc k) y there))

-- a write to one place, and to its row alone
pub places_set : (row other : Rows) (hs : List Handed) (i : ℕ) (h : Handed) (x : Place) → i < length hs
    → ((k : ℕ) (y : Handed) → slice_get hs k ≡ Some y → k ≢ i → other k y.kept ≡ row k y.kept)
    → place_of (other i h.kept) h ≡ x → places_by other (slice_set hs i h) ≡ slice_set (places_by row hs) i x
places_set row other [] i h x within same is = refl
places_set row other (y ∷ hs) zero h x within same is =
    ap₂ (λ (p : Place) (ps : List Place). p ∷ ps) is (places_stay (λ k. row (suc k)) (λ k. other (suc k)) hs (λ k z there. same (suc k) z there (λ e. absurd (omega (arith, e)))))
places_set row other (y ∷ hs) (suc i) h x within same is =
    ap₂ (λ (es : List Event) (ps : List Place). place_of es y ∷ ps) (same 0 y refl (λ e. absurd (omega (arith, e))))
    (places_set (λ k. row (suc k)) (λ k. other (suc k)) hs i h x (omega (arith, within)) (λ k z there apart. same (suc k) z there (λ e. apart (omega (arith, e)))) is)

-- a place more, which keeps nothing
pub places_push : (row : Rows) (hs : List Handed) (n : ℕ) → ((i : ℕ) → row i 0 ≡ []) → places_by row (hs ++ record { number = n; kept = 0; answered = false } ∷ []) ≡ places_by row hs ++ open_place n ∷ []
places_push row [] n none = ap (λ (es : List Event). place_of es (record { number = n; kept = 0; answered = false }) ∷ []) (none 0)
places_push row (h ∷ hs) n none = ap (λ (ps : List Place). place_of (row 0 h.kept) h ∷ ps) (places_push (λ i. row (suc i)) hs n (λ i. none (suc i)))

-- ---- the oldest place

pub oldest_none : (row : Rows) (hs : List Handed) → slice_get hs 0 ≡ None → oldest_answered (places_by row hs) ≡ None
oldest_none row [] none = refl
oldest_none row (x ∷ hs) none = absurd (none-some x (sym none))

-- it is unanswered
pub oldest_awaited : (row : Rows) (hs : List Handed) (h : Handed) → slice_get hs 0 ≡ Some h → h.answered ≡ false → oldest_answered (places_by row hs) ≡ None
oldest_awaited row [] h there awaited = refl
oldest_awaited row (x ∷ hs) h there awaited =
    let still : x.answered ≡ false = ap (λ (y : Handed). y.answered) (same_Some x h there) ∙ awaited in
    rw still refl

-- it is answered
pub oldest_resolved : (row : Rows) (hs : List Handed) (h : Handed) → slice_get hs 0 ≡ Some h → h.answered ≡ true
    → oldest_answered (places_by row hs) ≡ Some (record { number = h.number; answered = true; forwards = row 0 h.kept })
oldest_resolved row [] h there resolved = absurd (none-some h there)
oldest_resolved row (x ∷ hs) h there resolved =
    let same : x ≡ h = same_Some x h there in
    rw same (rw resolved refl)

-- ---- an open place

-- the place of these fields is unanswered
pub answer_open : (es : List Event) (h : Handed) → IsTrue (is_open (Some (place_of es h))) → h.answered ≡ false
answer_open es h = awaited_by h.answered
  where
    awaited_by : (b : Bool) → IsTrue (not b) → b ≡ false
    awaited_by false o = refl
    awaited_by true o = absurd cc
