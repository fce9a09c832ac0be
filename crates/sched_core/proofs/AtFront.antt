-- The oldest place of an ordered queue, of an event that is answered now: it leaves at once.
use Rattle.std.proofs.Common.{◌≡◌, ℕ, ◌<◌, ◌≤◌, ◌^◌, true, false, List, [], ◌∷◌, ◌++◌, None, Option, Some, ap, arith, drop, length, map, refl, set, slice_get, sym, ◌∙◌}
use Rattle.std.proofs.lemmas.Bool.{cond-false}
use Rattle.std.proofs.lemmas.List.Sums.{sum_by-cons}
use Rattle.std.proofs.lemmas.Option.{none-some, same_Some}
use Rattle.evt_types.specs.Place.{Place}
use Rattle.evt_types.specs.Plan.{Plan}
use Rattle.evt_types.specs.declared.event.Event.{Event}
use Rattle.evt_types.specs.declared.step.Outcome.{Outcome}
use Rattle.evt_types.specs.declared.step.Outcome.TheVariants.{Forwarded, Released}
use Rattle.order_parts.specs.Reorder.{Reordering, after_leave, after_leaving, after_resolve, index_of, is_done, number_of, oldest_answered, resolved, without_oldest}
use Rattle.order_parts.specs.declared.history.Entry.{Entry}
use Rattle.parked_queue.specs.Waits.{Waits}
use Rattle.sched_core.proofs.Ordered.{index_is, resolve_answers, resolve_is}
use Rattle.sched_core.proofs.PlaceNumbers.{back_of}
use Rattle.sched_core.proofs.Settling.{leaving-cons, leaving_none, staying-cons}
use Rattle.sched_core.specs.Ordered.{IsOrder, StandsIn, kept_of}
use Rattle.transcripts.specs.Standing.{answer_place, events_of, leaving, staying}

-- ---- the places at the front

head_is : (xs : List Place) (x : Place) → slice_get xs 0 ≡ Some x → xs ≡ x ∷ drop 1 xs
head_is [] x at = absurd (none-some x at)
head_is (y ∷ ys) x at = ap (λ z. z ∷ ys) (same_Some y x at)

-- the second isn't answered
pub next_none : (xs : List Place) → is_done (slice_get xs 1) ≡ false → oldest_answered (drop 1 xs) ≡ None
next_none [] waits = refl
next_none (x ∷ []) waits = refl
next_none (x ∷ y ∷ ys) waits = cond-false y.answered (Some y) None waits

-- an event that has the place of this index is there
pub index_at : (p : Plan) (depth : ℕ) (w : Waits) (r : Reordering) (y : Entry) (most k : ℕ) → IsOrder p depth w r → (s : StandsIn r y most) → y.place ≡ number_of r k → k < 2 ^ 64 → s.index ≡ k
index_at p depth w r y most k order s at small = sym (index_is p depth w r y s.index order s.stands) ∙ (ap (index_of r) at ∙ back_of r.first k order.first small)

-- it isn't answered
pub waits_at_index : (p : Plan) (depth : ℕ) (w : Waits) (r : Reordering) (y : Entry) (most k : ℕ) → IsOrder p depth w r → StandsIn r y most → y.place ≡ number_of r k → k < 2 ^ 64 → is_done (slice_get r.places k) ≡ false
waits_at_index p depth w r y most k order s at small =
    ap is_done (ap (slice_get r.places) (sym (index_at p depth w r y most k order s at small)) ∙ s.stands.there) ∙ s.stands.waits

none_of : (es : List Event) → length es ≤ 0 → es ≡ []
none_of [] few = refl
none_of (e ∷ es) few = absurd (omega (arith, few))

-- ---- the oldest place, which keeps nothing

module _ (p : Plan) (depth : ℕ) (w : Waits) (r : Reordering) (y : Entry) (order : IsOrder p depth w r) (stands : StandsIn r y 0) (front : y.place ≡ number_of r 0) (next : oldest_answered (drop 1 r.places) ≡ None) where
  abbrev pub shown : Place
  shown = stands.stands.shown

  abbrev rest : List Place
  rest = drop 1 r.places

  index : stands.index ≡ 0
  index = index_at p depth w r y 0 0 order stands front (omega arith)

  whole : r.places ≡ shown ∷ rest
  whole = head_is r.places shown (ap (slice_get r.places) (sym index) ∙ stands.stands.there)

  pub bare : shown.forwards ≡ []
  bare = none_of shown.forwards stands.few

  -- it is answered
  answered_is : (f : Option Event) → (after_resolve r y.place f).places ≡ resolved shown f ∷ rest
  answered_is f =
      ap (λ (q : Reordering). q.places) (resolve_is p depth w r y stands.index f order stands.stands)
      ∙ (ap (λ k. set r.places k (resolved shown f)) index ∙ ap (λ (ps : List Place). set ps 0 (resolved shown f)) whole)

  pub leaves_now : (f : Option Event) → oldest_answered (after_resolve r y.place f).places ≡ Some (resolved shown f)
  leaves_now f = ap oldest_answered (answered_is f)

  pub gone : (f : Option Event) → after_leave (after_resolve r y.place f) ≡ without_oldest r
  gone f =
      ap (after_leaving (after_resolve r y.place f)) (leaves_now f)
      ∙ ap (λ (ps : List Place). let q : Reordering = record { first = number_of r 1; places = drop 1 ps; depth = r.depth } in q) (answered_is f)

  -- the same as a view has it
  abbrev with_answer : Outcome → Place
  with_answer o = record { number = shown.number; answered = true; forwards = shown.forwards ++ events_of o }

  mapped : (o : Outcome) → map (answer_place y.number o) r.places ≡ with_answer o ∷ rest
  mapped Released = sym (resolve_answers p depth w r y 0 None order stands) ∙ answered_is None
  mapped (Forwarded e) = sym (resolve_answers p depth w r y 0 (Some e) order stands) ∙ answered_is (Some e)

  bare_answer : (o : Outcome) → with_answer o ≡ record { number = y.number; answered = true; forwards = events_of o }
  bare_answer o =
      ap (λ n. let x : Place = record { number = n; answered = true; forwards = shown.forwards ++ events_of o } in x) stands.stands.number
      ∙ ap (λ es. let x : Place = record { number = y.number; answered = true; forwards = es ++ events_of o } in x) bare

  pub leaving_one : (o : Outcome) → leaving (map (answer_place y.number o) r.places) ≡ record { number = y.number; answered = true; forwards = events_of o } ∷ []
  leaving_one o =
      ap leaving (mapped o)
      ∙ (leaving-cons (with_answer o) rest refl ∙ (ap (λ xs. with_answer o ∷ xs) (leaving_none rest next) ∙ ap (λ x. x ∷ []) (bare_answer o)))

  pub staying_rest : (o : Outcome) → staying (map (answer_place y.number o) r.places) ≡ rest
  staying_rest o = ap staying (mapped o) ∙ (staying-cons (with_answer o) rest refl ∙ ap (λ (xs : List Place). drop (length xs) rest) (leaving_none rest next))

  pub kept_rest : kept_of rest ≡ kept_of r.places
  kept_rest = omega (arith, ap kept_of whole, sum_by-cons (λ (x : Place). length x.forwards) shown rest, ap (λ (es : List Event). length es) bare)
