-- What the fields of a reorder buffer say of its places.
use Rattle.std.proofs.Common.{◌≡◌, ℕ, ◌+◌, ◌-◌, ◌*◌, ◌<◌, ◌≤◌, false, List, [], ◌∷◌, All, length, get_or, take, drop, slice_get, slice_index_or, sym, ap, subst, ◌∙◌, Some, arith}
use Rattle.std.proofs.lemmas.Option.{slice_get_within, slice_get-get_or, get_or_from_slice_get}
use Rattle.evt_types.specs.Place.{Place}
use Rattle.evt_types.specs.declared.event.TheConstants.{MAX_FORWARDS}
use Rattle.order_parts.specs.Reorder.{HasFew, Reordering, in_row, place_of, places_by, rows_from, wrapped}
use Rattle.evt_types.specs.declared.event.Event.{Event}
use Rattle.order_parts.specs.Rows.{HasRows, KeepsFew}
use Rattle.order_parts.specs.declared.reorder.Handed.{Handed}
use Rattle.order_parts.specs.declared.reorder.Reorder.TheInside.{Inside}
use Rattle.order_parts.proofs.Places.{Rows, places_length, place_there}
use Rattle.order_parts.proofs.Rows.{row_length, row_one, wrapped_low, wrapped_within}

abbrev pub rows : Inside → Rows
rows a = rows_from a.rows.items a.ring.capacity a.first_row

abbrev pub places : Inside → List Place
places a = places_by (rows a) a.ring.items

-- what callers see
abbrev pub shown : Inside → Reordering
shown a = record { first = a.first; places = places a; depth = a.ring.capacity }

-- ---- one of the places

module _ (a : Inside) (has : HasRows a) (i : ℕ) (h : Handed) (there : slice_get a.ring.items i ≡ Some h) where
  pub index_within : i < a.ring.capacity
  index_within = omega (arith, slice_get_within a.ring.items i h there, has.places)

  pub first_within : a.first_row < a.ring.capacity
  first_within = has.start (omega (arith, index_within))

  pub row_within : wrapped a.ring.capacity (a.first_row + i) < a.ring.capacity
  row_within = wrapped_within a.ring.capacity (a.first_row + i) (omega (arith, index_within, first_within))

  -- its row is there
  pub row_there : MAX_FORWARDS * wrapped a.ring.capacity (a.first_row + i) + MAX_FORWARDS ≤ length a.rows.items
  row_there = omega (arith, row_within, has.size)

  pub keeps_few : KeepsFew h
  keeps_few = subst KeepsFew (get_or_from_slice_get a.ring.items i h h there) (has.few i h (slice_get_within a.ring.items i h there))

  pub kept_length : length (rows a i h.kept) ≡ h.kept
  kept_length = row_length a.rows.items (wrapped a.ring.capacity (a.first_row + i)) h.kept (omega (arith, row_there, keeps_few.few))

  pub place_is : slice_get (places a) i ≡ Some (place_of (rows a i h.kept) h)
  place_is = place_there (rows a) a.ring.items i h there

  pub place_or : (d : Place) → slice_index_or (places a) i d ≡ place_of (rows a i h.kept) h
  place_or d = get_or_from_slice_get (places a) i (place_of (rows a i h.kept) h) d place_is

  pub has_few : HasFew (place_of (rows a i h.kept) h)
  has_few =
      record {
        few = omega (arith, kept_length, keeps_few.few);
        fewer = λ still. omega (arith, kept_length, keeps_few.fewer still);
      }

-- ---- the oldest place

module _ (a : Inside) (has : HasRows a) (h : Handed) (there : slice_get a.ring.items 0 ≡ Some h) where
  -- what is read from the first row on
  pub oldest_kept : take (MAX_FORWARDS * a.first_row + h.kept - MAX_FORWARDS * a.first_row) (drop (MAX_FORWARDS * a.first_row) a.rows.items) ≡ rows a 0 h.kept
  unfolding in_row
  oldest_kept =
      let low = wrapped_low a.ring.capacity (a.first_row + 0) (omega (arith, first_within a has 0 h there)) in
      ap (λ n. take n (drop (MAX_FORWARDS * a.first_row) a.rows.items)) (omega arith)
      ∙ ap (λ row. take h.kept (drop (MAX_FORWARDS * row) a.rows.items)) (omega (arith, low))

  pub oldest_few : length (take (MAX_FORWARDS * a.first_row + h.kept - MAX_FORWARDS * a.first_row) (drop (MAX_FORWARDS * a.first_row) a.rows.items)) ≤ MAX_FORWARDS
  oldest_few = omega (arith, ap length oldest_kept, kept_length a has 0 h there, (keeps_few a has 0 h there).few)

  -- the first event of the first row
  pub first_kept : h.kept ≡ 1 → (d : Event) → rows a 0 1 ≡ get_or a.rows.items (MAX_FORWARDS * a.first_row) d ∷ []
  first_kept one d =
      let low = wrapped_low a.ring.capacity (a.first_row + 0) (omega (arith, first_within a has 0 h there)) in
      let room = row_there a has 0 h there in
      row_one a.rows.items (wrapped a.ring.capacity (a.first_row + 0)) d (omega (arith, room))
      ∙ ap (λ k. get_or a.rows.items (MAX_FORWARDS * k) d ∷ []) (low ∙ omega arith)

-- ---- all of them

pub all_few : (a : Inside) → HasRows a → All HasFew (places a)
all_few a has k d below =
    let within : k < length a.ring.items = omega (arith, below, places_length (rows a) a.ring.items) in
    let blank : Handed = record { number = 0; kept = 0; answered = false } in
    let there = slice_get-get_or a.ring.items k blank within in
    subst HasFew (sym (place_or a has k (get_or a.ring.items k blank) there d)) (has_few a has k (get_or a.ring.items k blank) there)
