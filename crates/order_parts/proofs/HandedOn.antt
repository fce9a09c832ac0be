-- A row of events is handed to a lane one after another: one event more.
use Rattle.std.proofs.Common.{◌≡◌, ℕ, ◌+◌, ◌<◌, ◌≤◌, List, [], ◌∷◌, ◌++◌, ◌^◌, length, get_or, take, set, IsTrue, slice_get, ⊎_elim, refl, sym, ap, ◌∙◌, subst, arith}
use Rattle.std.specs.Prelude.{IsFalse}
use Rattle.std.proofs.lemmas.Bool.{cases_eq, cases_lt}
use Rattle.std.proofs.lemmas.List.{get_or-set_other, get_or-set_same, length_push, set_past, take_more}
use Rattle.std.proofs.lemmas.Option.{slice_get_read}
use Rattle.evt_types.specs.declared.event.Delivery.{Delivery}
use Rattle.evt_types.specs.declared.shape.TheConstants.{MAX_DEPTH}
use Rattle.order_parts.specs.HandedRow.{AreHandedOn, IsRefused, OfFlows, plain_entry, with_pinned}
use Rattle.order_parts.specs.Pins.{Pin, free, may_pin, pin_at, pinned}
use Rattle.order_parts.specs.declared.history.Entry.{Entry}

module _ (is_slot : ℕ → ℕ → Type 0) (l q : ℕ) where
  pub handed_more : (ps : List Pin) (ys : List Entry) (ds : List Delivery) (d : Delivery) (slot : ℕ) (pt : List Pin) (yt : List Entry) → AreHandedOn is_slot l q ps ys ds pt yt → is_slot d.event.flow slot → IsTrue (may_pin (pin_at pt slot) l)
      → AreHandedOn is_slot l q ps ys (ds ++ d ∷ []) (with_pinned pt slot l) (yt ++ plain_entry q d slot ∷ [])
  handed_more ps ys [] d slot pt yt went is may = (
    slot,
    is,
    subst (λ x. IsTrue (may_pin (pin_at x slot) l)) went.0 may,
    (ap (λ x. with_pinned x slot l) went.0, ap (λ x. x ++ plain_entry q d slot ∷ []) went.1),
  )
  handed_more ps ys (e ∷ ds) d slot pt yt went is may = (
    went.0,
    went.1,
    went.2,
    handed_more (with_pinned ps went.0 l) (ys ++ plain_entry q e went.0 ∷ []) ds d slot pt yt went.3 is may,
  )

  -- the row's next event
  pub handed_next : (ps : List Pin) (ys : List Entry) (row : List Delivery) (i : ℕ) (d : Delivery) (slot : ℕ) (pt : List Pin) (yt : List Entry) (now : List Pin) (all : List Entry) → i < length row → d ≡ get_or row i d
      → AreHandedOn is_slot l q ps ys (take i row) pt yt → is_slot d.event.flow slot → IsTrue (may_pin (pin_at pt slot) l) → now ≡ with_pinned pt slot l → all ≡ yt ++ plain_entry q d slot ∷ []
      → AreHandedOn is_slot l q ps ys (take (i + 1) row) now all
  handed_next ps ys row i d slot pt yt now all within read went is may pins entries =
      subst (λ ds. AreHandedOn is_slot l q ps ys ds now all) (sym (take_more row i d within ∙ ap (λ e. take i row ++ e ∷ []) (sym read)))
      (subst (λ x. AreHandedOn is_slot l q ps ys (take i row ++ d ∷ []) x all) (sym pins)
      (subst (AreHandedOn is_slot l q ps ys (take i row ++ d ∷ []) (with_pinned pt slot l)) (sym entries)
      (handed_more ps ys (take i row) d slot pt yt went is may)))

  -- the lane may not have the slot of the row's next event
  pub refused : (row : List Delivery) (i n : ℕ) (d : Delivery) (slot : ℕ) (pt now : List Pin) → n ≡ i → i < length row → d ≡ get_or row i d → is_slot d.event.flow slot → IsFalse (may_pin (pin_at pt slot) l) → now ≡ pt
      → IsRefused is_slot l now row n
  refused row i n d slot pt now same within read is may_not pins = (
    d,
    slot,
    ap (slice_get row) same ∙ slice_get_read row (length row) i d refl within read,
    is,
    subst (λ x. IsFalse (may_pin (pin_at x slot) l)) (sym pins) may_not,
  )

  -- each event has one entry
  pub handed_length : (ps : List Pin) (ys : List Entry) (ds : List Delivery) (pt : List Pin) (yt : List Entry) → AreHandedOn is_slot l q ps ys ds pt yt → length yt ≡ length ys + length ds
  handed_length ps ys [] pt yt went = let same = ap length went.1 in omega (arith, same)
  handed_length ps ys (d ∷ ds) pt yt went =
      let on = handed_length (with_pinned ps went.0 l) (ys ++ plain_entry q d went.0 ∷ []) ds pt yt went.3 in
      omega (arith, on, length_push ys (plain_entry q d went.0))

-- a slot that was found
pub of_flow : (is_slot : ℕ → ℕ → Type 0) (f flow slot : ℕ) → f ≡ flow → f < 2 ^ 32 → is_slot f slot → OfFlows is_slot flow slot
of_flow is_slot f flow slot same fits is = subst (λ k. OfFlows is_slot k slot) same (fits, is)

-- what the slots' counts leave room for after it
pub counts_less : (ps : List Pin) (slot l more : ℕ) → ((s : ℕ) → IsTrue (may_pin (pin_at ps s) l) → (pin_at ps s).count + (more + 1) ≤ MAX_DEPTH) → IsTrue (may_pin (pin_at ps slot) l)
    → (s : ℕ) → IsTrue (may_pin (pin_at (with_pinned ps slot l) s) l) → (pin_at (with_pinned ps slot l) s).count + more ≤ MAX_DEPTH
counts_less ps slot l more left may s can =
    let x : Pin = pinned (pin_at ps slot) l in
    ⊎_elim
    (λ lt. ⊎_elim
    (λ same. let e : pin_at (set ps slot x) s ≡ x = ap (pin_at (set ps slot x)) same ∙ get_or-set_same ps slot x free lt in let fits = left slot may in omega (arith, ap (λ (p : Pin). p.count) e))
    (λ other. let e = get_or-set_other ps slot s x free other in let fits = left s (subst (λ (p : Pin). IsTrue (may_pin p l)) e can) in omega (arith, ap (λ (p : Pin). p.count) e))
    (cases_eq s slot))
    (λ le. let e = ap (λ ys. pin_at ys s) (set_past ps slot x le) in let fits = left s (subst (λ (p : Pin). IsTrue (may_pin p l)) e can) in omega (arith, ap (λ (p : Pin). p.count) e))
    (cases_lt slot (length ps))
