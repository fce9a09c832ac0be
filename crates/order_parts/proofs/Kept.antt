-- What a place keeps, read off the fields of a reorder buffer.
use Rattle.std.proofs.Common.{◌≡◌, ℕ, ◌+◌, ◌*◌, ◌<◌, ◌≤◌, List, [], ◌∷◌, suc, sum_by, refl, drop, length, get_or, slice_get, slice_index_or, sym, ap, ◌∙◌, Some, None, arith, option_map}
use Rattle.std.proofs.lemmas.Option.{slice_get-map, slice_get-get_or, slice_get_past}
use Rattle.evt_types.specs.Place.{Place}
use Rattle.evt_types.specs.declared.event.Event.{Event}
use Rattle.evt_types.specs.declared.event.Numbered.{Numbered}
use Rattle.evt_types.specs.declared.event.TheConstants.{MAX_FORWARDS}
use Rattle.std.proofs.lemmas.List.Sums.{sum_by-cons}
use Rattle.order_parts.specs.Released.{kept_in_places}
use Rattle.order_parts.specs.Reorder.{Reordering, kept_of, open_place, place_of, places_by, wrapped}
use Rattle.order_parts.specs.Rows.{HasRows, kept_by}
use Rattle.order_parts.specs.declared.reorder.Handed.{Handed}
use Rattle.order_parts.specs.declared.reorder.Reorder.TheInside.{Inside}
use Rattle.order_parts.proofs.Fields.{keeps_few, kept_length, place_or, rows, shown}
use Rattle.order_parts.proofs.Places.{Rows, place_none}
use Rattle.order_parts.proofs.Rows.{row_at}

abbrev under : ℕ → Event → Numbered
under n e = record { number = n; event = e }

-- ---- all places

each_counted : (row : Rows) (hs : List Handed) → ((k : ℕ) (y : Handed) → slice_get hs k ≡ Some y → length (row k y.kept) ≡ y.kept) → kept_in_places (places_by row hs) ≡ sum_by (λ (h : Handed). h.kept) hs
each_counted row [] is = refl
each_counted row (h ∷ hs) is =
    omega (
      arith,
      sum_by-cons (λ (x : Place). length x.forwards) (place_of (row 0 h.kept) h) (places_by (λ i. row (suc i)) hs),
      sum_by-cons (λ (y : Handed). y.kept) h hs,
      is 0 h refl,
      each_counted (λ i. row (suc i)) hs (λ k y there. is (suc k) y there),
    )

pub counted : (a : Inside) (r : Reordering) → shown a ≡ r → HasRows a → kept_in_places r.places ≡ a.kept
counted a r is has =
    ap (λ (k : Reordering). kept_in_places k.places) (sym is) ∙ (each_counted (rows a) a.ring.items (λ k y there. kept_length a has k y there) ∙ sym has.count)

-- ---- one of them

module _ (a : Inside) (r : Reordering) (is : shown a ≡ r) (i : ℕ) where
  -- where no place is, nothing is kept
  pub none_there : slice_get a.ring.items i ≡ None → slice_index_or r.places i (open_place 0) ≡ open_place 0
  none_there none = ap (λ (k : Reordering). slice_index_or k.places i (open_place 0)) (sym is) ∙ place_none (rows a) a.ring.items i (open_place 0) none

  module _ (has : HasRows a) (h : Handed) (there : slice_get a.ring.items i ≡ Some h) where
    pub place_here : slice_index_or r.places i (open_place 0) ≡ place_of (rows a i h.kept) h
    place_here = ap (λ (k : Reordering). slice_index_or k.places i (open_place 0)) (sym is) ∙ place_or a has i h there (open_place 0)

    pub count_is : length (slice_index_or r.places i (open_place 0)).forwards ≡ h.kept
    count_is = ap (λ (x : Place). length x.forwards) place_here ∙ kept_length a has i h there

    pub count_few : h.kept ≤ MAX_FORWARDS
    count_few = (keeps_few a has i h there).few

    kept_is : (k : ℕ) → slice_get (kept_of (slice_index_or r.places i (open_place 0))) k ≡ option_map (under h.number) (slice_get (rows a i h.kept) k)
    kept_is k = ap (λ x. slice_get (kept_of x) k) place_here ∙ slice_get-map (under h.number) (rows a i h.kept) k

    pub kept_nth : (k : ℕ) (d : Event) → k < h.kept → slice_get (kept_of (slice_index_or r.places i (open_place 0))) k ≡ Some (under h.number (get_or a.rows.items (MAX_FORWARDS * wrapped a.ring.capacity (a.first_row + i) + k) d))
    kept_nth k d below =
        kept_is k
        ∙ ap (option_map (under h.number)) (slice_get-get_or (rows a i h.kept) k d (omega (arith, below, kept_length a has i h there)))
        ∙ ap (λ e. Some (under h.number e)) (row_at a.rows.items (wrapped a.ring.capacity (a.first_row + i)) h.kept k d below)

    -- and nothing behind these
    pub kept_past : (k : ℕ) → h.kept ≤ k → slice_get (kept_of (slice_index_or r.places i (open_place 0))) k ≡ None
    kept_past k past =
        kept_is k ∙ ap (option_map (under h.number)) (slice_get_past (rows a i h.kept) k (omega (arith, past, kept_length a has i h there)))

-- ---- all but the oldest place

pub others_counted : (a : Inside) → HasRows a → kept_by (slice_get a.ring.items 0) + sum_by (λ (h : Handed). h.kept) (drop 1 a.ring.items) ≡ a.kept
others_counted a has = by_places a.ring.items ∙ sym has.count
  where
    by_places : (hs : List Handed) → kept_by (slice_get hs 0) + sum_by (λ (h : Handed). h.kept) (drop 1 hs) ≡ sum_by (λ (h : Handed). h.kept) hs
    by_places [] = refl
    by_places (h ∷ hs) = sym (sum_by-cons (λ (y : Handed). y.kept) h hs)
