-- Slots of which events are answered one after the other.
use Rattle.std.proofs.Common.{◌≡◌, ℕ, zero, suc, ◌+◌, ◌<◌, ◌≤◌, List, [], ◌∷◌, ◌++◌, All, Some, ap, arith, drop, length, slice_get, subst, sym, take, ◌∙◌}
use Rattle.std.proofs.lemmas.List.{set_past}
use Rattle.std.proofs.lemmas.List.Elements.{All-push}
use Rattle.std.proofs.lemmas.List.Sums.{fold-append}
use Rattle.std.proofs.lemmas.Option.{none-some, same_Some}
use Rattle.order_parts.specs.Pins.{Pin, pin_at, unpinned}
use Rattle.order_parts.specs.Unpinned.{AreHeldInTurn, IsOfQueue, without_entries, without_entry}
use Rattle.order_parts.specs.declared.history.Entry.{Entry}

-- the entry at a place, and what is before and behind it
drop_at : (es : List Entry) (i : ℕ) (y : Entry) → slice_get es i ≡ Some y → drop i es ≡ y ∷ drop (i + 1) es
drop_at [] i y is = absurd (none-some y is)
drop_at (x ∷ xs) zero y is = ap (λ z. z ∷ xs) (same_Some x y is)
drop_at (x ∷ xs) (suc i) y is = let one : suc (i + 1) ≡ suc i + 1 = omega arith in drop_at xs i y is ∙ ap (λ n. y ∷ drop n (x ∷ xs)) one

pub take_at : (es : List Entry) (i : ℕ) (y : Entry) → slice_get es i ≡ Some y → take (i + 1) es ≡ take i es ++ y ∷ []
take_at [] i y is = absurd (none-some y is)
take_at (x ∷ xs) zero y is = ap (λ z. z ∷ []) (same_Some x y is)
take_at (x ∷ xs) (suc i) y is = let one : suc i + 1 ≡ suc (i + 1) = omega arith in ap (λ n. take n (x ∷ xs)) one ∙ ap (λ zs. x ∷ zs) (take_at xs i y is)

module _ (q i : ℕ) (start ps : List Pin) (es : List Entry) (y : Entry) (at : slice_get es i ≡ Some y) (of : y.queue ≡ q) (so : ps ≡ without_entries start (take i es)) (each : All (IsOfQueue q) (take i es)) (held : AreHeldInTurn q ps (drop i es)) where
  both : (y.slot < length ps → 0 < (pin_at ps y.slot).count) × AreHeldInTurn q (without_entry ps y) (drop (i + 1) es)
  both = subst (AreHeldInTurn q ps) (drop_at es i y at) held of

  pub entry_held : y.slot < length ps → 0 < (pin_at ps y.slot).count
  entry_held = both.0

  pub entry_gone : (now : List Pin) → now ≡ without_entry ps y
      → (now ≡ without_entries start (take (i + 1) es)) × All (IsOfQueue q) (take (i + 1) es) × AreHeldInTurn q now (drop (i + 1) es)
  entry_gone now is = (
    is ∙ (ap (λ xs. without_entry xs y) so ∙ (sym (fold-append without_entry start (take i es) (y ∷ [])) ∙ ap (without_entries start) (sym (take_at es i y at)))),
    subst (All (IsOfQueue q)) (sym (take_at es i y at)) (All-push (IsOfQueue q) (take i es) y each of),
    subst (λ xs. AreHeldInTurn q xs (drop (i + 1) es)) (sym is) both.1,
  )

-- a slot without a pin has none after it
pub past_slots : (ps : List Pin) (y : Entry) → length ps ≤ y.slot → without_entry ps y ≡ ps
past_slots ps y past = set_past ps y.slot (unpinned (pin_at ps y.slot)) past
