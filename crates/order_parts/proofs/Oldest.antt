-- The oldest place, read off the fields of a reorder buffer.
use Rattle.std.proofs.Common.{◌≡◌, ℕ, ◌+◌, ◌*◌, ◌<◌, Bool, false, true, List, length, get_or, slice_get, refl, sym, ap, ◌∙◌, Option, Some, None, arith}
use Rattle.std.specs.Option.{is_some}
use Rattle.std.proofs.lemmas.Option.{slice_get_within}
use Rattle.evt_types.specs.Place.{Place}
use Rattle.evt_types.specs.declared.event.Event.{Event}
use Rattle.evt_types.specs.declared.event.TheConstants.{MAX_FORWARDS}
use Rattle.order_parts.specs.Reorder.{Reordering, left_plain, oldest_answered, wrapped}
use Rattle.order_parts.specs.Rows.{HasRows}
use Rattle.order_parts.specs.declared.reorder.Handed.{Handed}
use Rattle.order_parts.specs.declared.reorder.Reorder.TheInside.{Inside}
use Rattle.order_parts.proofs.Fields.{first_kept, rows, shown}
use Rattle.order_parts.proofs.Places.{oldest_awaited, oldest_none, oldest_resolved, places_length}
use Rattle.order_parts.proofs.Rows.{row_none}

abbrev place_left : ℕ → List Event → Option Place
place_left n es = Some (record { number = n; answered = true; forwards = es })

module _ (a : Inside) (r : Reordering) (is : shown a ≡ r) where
  pub none_oldest : slice_get a.ring.items 0 ≡ None → oldest_answered r.places ≡ None
  none_oldest none = ap (λ (k : Reordering). oldest_answered k.places) (sym is) ∙ oldest_none (rows a) a.ring.items none

  module _ (h : Handed) (there : slice_get a.ring.items 0 ≡ Some h) where
    pub some_place : 0 < length r.places
    some_place = omega (arith, slice_get_within a.ring.items 0 h there, places_length (rows a) a.ring.items, ap (λ (k : Reordering). length k.places) is)

    pub unresolved_oldest : h.answered ≡ false → oldest_answered r.places ≡ None
    unresolved_oldest awaited = ap (λ (k : Reordering). oldest_answered k.places) (sym is) ∙ oldest_awaited (rows a) a.ring.items h there awaited

    pub resolved_oldest : h.answered ≡ true → oldest_answered r.places ≡ Some (record { number = h.number; answered = true; forwards = rows a 0 h.kept })
    resolved_oldest resolved = ap (λ (k : Reordering). oldest_answered k.places) (sym is) ∙ oldest_resolved (rows a) a.ring.items h there resolved

    -- whether it may leave
    pub oldest_leaves : is_some (oldest_answered r.places) ≡ h.answered
    oldest_leaves = by_answer h.answered refl
      where
        by_answer : (b : Bool) → h.answered ≡ b → is_some (oldest_answered r.places) ≡ h.answered
        by_answer false awaited = ap is_some (unresolved_oldest awaited) ∙ sym awaited
        by_answer true resolved = ap is_some (resolved_oldest resolved) ∙ sym resolved

    -- it keeps nothing
    pub bare_oldest : (e : Event) → h.answered ≡ true → h.kept ≡ 0 → oldest_answered r.places ≡ Some (left_plain h.number false e)
    bare_oldest e resolved none =
        resolved_oldest resolved ∙ ap (place_left h.number) (ap (rows a 0) none ∙ row_none a.rows.items (wrapped a.ring.capacity (a.first_row + 0)))

    -- it keeps one event
    pub plain_oldest : HasRows a → (d : Event) → h.answered ≡ true → h.kept ≡ 1 → oldest_answered r.places ≡ Some (left_plain h.number true (get_or a.rows.items (MAX_FORWARDS * a.first_row) d))
    plain_oldest has d resolved one =
        resolved_oldest resolved ∙ ap (place_left h.number) (ap (rows a 0) one ∙ first_kept a has h there one d)
