-- An event is added to the place of an unanswered event.
use Rattle.std.proofs.Common.{◌≡◌, ◌≢◌, ℕ, ◌+◌, ◌<◌, ◌≤◌, List, [], ◌∷◌, ◌++◌, length, map, set, get_or, slice_get, Some, refl, sym, ap, ◌∙◌, subst, arith}
use Rattle.std.proofs.lemmas.List.{get_or-set_same, length_push, length-set}
use Rattle.std.proofs.lemmas.List.Elements.{All-push}
use Rattle.std.proofs.lemmas.Option.{slice_get_within, slice_get-get_or}
use Rattle.transcripts.proofs.PlaceFacts.{add_at}
use Rattle.evt_types.specs.Plan.{Plan}
use Rattle.evt_types.specs.Place.{Place}
use Rattle.transcripts.specs.Standing.{add_to_place}
use Rattle.evt_types.specs.declared.event.Event.{Event}
use Rattle.evt_types.specs.declared.event.TheConstants.{MAX_EXTRAS}
use Rattle.order_parts.specs.Reorder.{Reordering, open_place, place_or_open, with_added, after_add}
use Rattle.order_parts.specs.declared.history.Entry.{Entry}
use Rattle.sched_core.specs.Ordered.{IsOrder, KeepsFew, StandsIn, kept_of}
use Rattle.parked_queue.specs.Waits.{Waits}
use Rattle.sched_core.proofs.Ordered.{index_is, order_writes, shown_is, shown_keeps, stands_written, with_places, writes_keep}

-- what is written is there
written : (ps : List Place) (i : ℕ) (x : Place) → i < length ps → slice_get (set ps i x) i ≡ Some x
written ps i x h = slice_get-get_or (set ps i x) i x (subst (λ n. i < n) (sym (length-set ps i x)) h) ∙ ap (λ y. Some y) (get_or-set_same ps i x x h)

-- there is room for one event more, where fewer were added than may be
pub room_beside : (p : Plan) (depth : ℕ) (w : Waits) (r : Reordering) (y : Entry) (most : ℕ) → IsOrder p depth w r → StandsIn r y most → most < MAX_EXTRAS
    → length (place_or_open r y.place).forwards < MAX_EXTRAS
room_beside p depth w r y most o s lt =
    let few = s.few in
    let here : place_or_open r y.place ≡ s.stands.shown = ap (λ i. get_or r.places i (open_place 0)) (index_is p depth w r y s.index o s.stands) ∙ shown_is r y s.index (open_place 0) s.stands in
    omega (arith, ap (λ (x : Place). length x.forwards) here)

module _ (p : Plan) (depth : ℕ) (w : Waits) (r : Reordering) (y : Entry) (most : ℕ) (e : Event) (o : IsOrder p depth w r) (s : StandsIn r y most) where
  here : get_or r.places s.index (open_place 0) ≡ s.stands.shown
  here = shown_is r y s.index (open_place 0) s.stands

  add_is : after_add r y.place e ≡ with_places r (set r.places s.index (with_added s.stands.shown e))
  add_is =
      ap (λ i. with_places r (set r.places i (with_added (get_or r.places i (open_place 0)) e))) (index_is p depth w r y s.index o s.stands)
      ∙ ap (λ x. with_places r (set r.places s.index (with_added x e))) here

  -- the addition is one to the event's place alone
  pub add_adds : (after_add r y.place e).places ≡ map (add_to_place y.number e) r.places
  add_adds =
      let k : ℕ = s.index in
      let x : Place = s.stands.shown in
      ap (λ (q : Reordering). q.places) add_is
      ∙ sym (add_at r.places k y.number e (open_place 0) o.distinct (slice_get_within r.places k x s.stands.there) (ap (λ (z : Place). z.number) here ∙ s.stands.number)
      ∙ (ap (λ (z : Place). set r.places k (record { number = y.number; answered = z.answered; forwards = z.forwards ++ e ∷ [] })) here
      ∙ ap (λ n. set r.places k (record { number = n; answered = x.answered; forwards = x.forwards ++ e ∷ [] })) (sym s.stands.number)))

  -- one event more is kept
  pub add_keeps : kept_of (after_add r y.place e).places ≡ kept_of r.places + 1
  add_keeps =
      ap (λ (q : Reordering). kept_of q.places) add_is
      ∙ writes_keep r y s.index 1 (with_added s.stands.shown e) s.stands (length_push s.stands.shown.forwards e)

  -- fewer were added than may be
  pub order_adds : most < MAX_EXTRAS → e.queue < length p.queues → IsOrder p depth w (after_add r y.place e)
  order_adds lt named =
      subst (IsOrder p depth w) (sym add_is) (order_writes p depth w r y s.index (with_added s.stands.shown e) o s.stands refl keeps)
    where
      had : KeepsFew p s.stands.shown
      had = shown_keeps p depth w r y s.index o s.stands

      few : length (s.stands.shown.forwards ++ e ∷ []) ≤ MAX_EXTRAS
      few = let long = length_push s.stands.shown.forwards e in let was = s.few in omega arith

      keeps : KeepsFew p (with_added s.stands.shown e)
      keeps = record { few = record { few = let most : length (s.stands.shown.forwards ++ e ∷ []) ≤ MAX_EXTRAS = few in omega arith; fewer = λ waits. few }; named = All-push (λ (d : Event). d.queue < length p.queues) s.stands.shown.forwards e had.named named }

  -- it stays open, with one event more
  pub stands_added : StandsIn (after_add r y.place e) y (most + 1)
  stands_added =
      subst (λ q. StandsIn q y (most + 1)) (sym add_is)
      (record {
        index = s.index;
        stands =
            record {
              shown = with_added s.stands.shown e;
              place = s.stands.place;
              there = written r.places s.index (with_added s.stands.shown e) (slice_get_within r.places s.index s.stands.shown s.stands.there);
              number = s.stands.number;
              waits = s.stands.waits;
            };
        few = let long = length_push s.stands.shown.forwards e in let was = s.few in omega arith;
      })

  -- the others' places stay as they are
  pub stands_beside : (z : Entry) (other : ℕ) → z.number ≢ y.number → StandsIn r z other → StandsIn (after_add r y.place e) z other
  stands_beside z other differs is =
      subst (λ q. StandsIn q z other) (sym add_is) (stands_written r y z s.index other (with_added s.stands.shown e) s.stands differs is)
