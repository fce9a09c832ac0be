-- What a change of the fields of a reorder buffer leaves of its places.
use Rattle.std.proofs.Common.{◌≡◌, ℕ, ◌+◌, ◌-◌, ◌*◌, ◌%◌, ◌^◌, ◌<◌, ◌≤◌, Bool, false, not, true, List, [], ◌∷◌, ◌++◌, All, length, set, drop, get_or, slice_get, slice_set, slice_index_or, sum_by, suc, zero, refl, sym, ap, subst, ◌∙◌, Option, Some, None, IsTrue, ⊎_elim, arith, append-nil, length-append, length-set, length-drop}
use Rattle.std.specs.Vec.{with_item}
use Rattle.std.proofs.lemmas.Bool.{cases_lt}
use Rattle.std.proofs.lemmas.List.Elements.{All-set, All-drop, All-push}
use Rattle.std.proofs.lemmas.List.Sums.{sum_by-cons, sum_by-le, sum_by-set, sum_by_push}
use Rattle.std.proofs.lemmas.Option.{get_or_from_slice_get, none-some, slice_get_within}
use Rattle.circular_buffer.specs.Buffer.{buffer, keep_last}
use Rattle.evt_types.specs.Place.{Place}
use Rattle.evt_types.specs.declared.event.Event.{Event}
use Rattle.evt_types.specs.declared.event.TheConstants.{MAX_EXTRAS, MAX_FORWARDS}
use Rattle.order_parts.specs.Reorder.{Reordering, after_add, after_hand, after_keep, after_resolve, in_row, index_of, is_open, open_place, place_at, place_of, place_or_open, places_by, resolved, rows_from, with_kept, without_first, without_oldest, wrapped}
use Rattle.order_parts.specs.Rows.{HasRows, KeepsFew}
use Rattle.order_parts.specs.declared.reorder.Handed.{Handed}
use Rattle.order_parts.specs.declared.reorder.Reorder.TheInside.{Inside}
use Rattle.order_parts.proofs.Fields.{first_within, index_within, keeps_few, kept_length, place_is, place_or, places, row_there, rows, shown}
use Rattle.order_parts.proofs.Places.{answer_open, no_place, places_length, places_push, places_set, places_stay}
use Rattle.order_parts.proofs.Rows.{row_before, row_more, row_none, row_stays, rows_differ, wrapped_high, wrapped_low, wrapped_within}

-- ---- one place

module _ (a : Inside) (has : HasRows a) (i : ℕ) (h : Handed) (there : slice_get a.ring.items i ≡ Some h) where
  pub places_resolved : places_by (rows a) (slice_set a.ring.items i (record { number = h.number; kept = h.kept; answered = true })) ≡ slice_set (places a) i (resolved (slice_index_or (places a) i (open_place 0)) None)
  places_resolved =
      places_set (rows a) (rows a) a.ring.items i (record { number = h.number; kept = h.kept; answered = true }) (resolved (slice_index_or (places a) i (open_place 0)) None)
      (slice_get_within a.ring.items i h there) (λ k y other apart. refl)
      (ap (λ (es : List Event). let p : Place = record { number = h.number; answered = true; forwards = es } in p) (sym (append-nil (rows a i h.kept)))
      ∙ ap (λ x. resolved x None) (sym (place_or a has i h there (open_place 0))))

  -- the events with one more in the row of the place
  abbrev written : Event → List Event
  written e = set a.rows.items (MAX_FORWARDS * wrapped a.ring.capacity (a.first_row + i) + h.kept) e

  pub places_kept : (e : Event) (answered : Bool) → h.kept < MAX_FORWARDS → places_by (rows_from (written e) a.ring.capacity a.first_row) (slice_set a.ring.items i (record { number = h.number; kept = h.kept + 1; answered = answered })) ≡ slice_set (places a) i (with_kept (slice_index_or (places a) i (open_place 0)) e answered)
  places_kept e answered room =
      places_set (rows a) (rows_from (written e) a.ring.capacity a.first_row) a.ring.items i (record { number = h.number; kept = h.kept + 1; answered = answered }) (with_kept (slice_index_or (places a) i (open_place 0)) e answered)
      (slice_get_within a.ring.items i h there)
      (λ k y other apart. row_stays a.rows.items (wrapped a.ring.capacity (a.first_row + i)) (wrapped a.ring.capacity (a.first_row + k)) y.kept h.kept e room (keeps_few a has k y other).few
      (rows_differ a.ring.capacity a.first_row i k (first_within a has i h there) (index_within a has i h there) (index_within a has k y other) apart))
      (ap (λ (es : List Event). place_of es (record { number = h.number; kept = h.kept + 1; answered = answered })) (row_more a.rows.items (wrapped a.ring.capacity (a.first_row + i)) h.kept e (omega (arith, row_there a has i h there, room)))
      ∙ ap (λ x. with_kept x e answered) (sym (place_or a has i h there (open_place 0))))

-- ---- a place more

pub shown_handed : (a : Inside) (has : HasRows a) (r : Reordering) → shown a ≡ r → (n : ℕ) → length r.places < r.depth
    → shown (record { ring = buffer (keep_last a.ring.capacity (a.ring.items ++ record { number = n; kept = 0; answered = false } ∷ [])) a.ring.capacity; first = a.first; rows = a.rows; first_row = a.first_row; kept = a.kept }) ≡ after_hand r n
shown_handed a has r is n room =
    let next : Handed = record { number = n; kept = 0; answered = false } in
    let count = ap (λ (k : Reordering). length k.places) is in
    let depth = ap (λ (k : Reordering). k.depth) is in
    let fits : length (a.ring.items ++ next ∷ []) - a.ring.capacity ≡ 0 =
    omega (arith, length-append a.ring.items (next ∷ []), places_length (rows a) a.ring.items, count, depth, room) in
    ap (λ (hs : List Handed). let k : Reordering = record { first = a.first; places = places_by (rows a) hs; depth = a.ring.capacity } in k) (ap (λ m. drop m (a.ring.items ++ next ∷ [])) fits)
    ∙ ap (λ (ps : List Place). let k : Reordering = record { first = a.first; places = ps; depth = a.ring.capacity } in k)
    (places_push (rows a) a.ring.items n (λ i. row_none a.rows.items (wrapped a.ring.capacity (a.first_row + i))))
    ∙ ap (λ k. after_hand k n) is

-- a place more, which keeps nothing: the rows stand as before
pub rows_handed : (a : Inside) (has : HasRows a) (r : Reordering) → shown a ≡ r → (n : ℕ) → length r.places < r.depth
    → HasRows (record { ring = buffer (keep_last a.ring.capacity (a.ring.items ++ record { number = n; kept = 0; answered = false } ∷ [])) a.ring.capacity; first = a.first; rows = a.rows; first_row = a.first_row; kept = a.kept })
rows_handed a has r is n room =
    let next : Handed = record { number = n; kept = 0; answered = false } in
    let count = ap (λ (k : Reordering). length k.places) is in
    let depth = ap (λ (k : Reordering). k.depth) is in
    let more = length-append a.ring.items (next ∷ []) in
    let there = places_length (rows a) a.ring.items in
    let fits : length (a.ring.items ++ next ∷ []) - a.ring.capacity ≡ 0 = omega (arith, more, there, count, depth, room) in
    let all : keep_last a.ring.capacity (a.ring.items ++ next ∷ []) ≡ a.ring.items ++ next ∷ [] = ap (λ m. drop m (a.ring.items ++ next ∷ [])) fits in
    record {
      size = has.size;
      start = has.start;
      places = omega (arith, ap (λ (hs : List Handed). length hs) all, more, there, count, depth, room);
      few = subst (All KeepsFew) (sym all) (All-push KeepsFew a.ring.items next has.few (record { few = omega arith; fewer = λ still. omega arith }));
      count = omega (arith, has.count, sum_by_push (λ (h : Handed). h.kept) a.ring.items next, ap (λ (hs : List Handed). sum_by (λ (h : Handed). h.kept) hs) all);
    }

-- no more are kept than the rows have cells
pub count_small : (a : Inside) → HasRows a → a.kept ≤ length a.rows.items
count_small a has = omega (arith, has.count, sum_by-le (λ (h : Handed). h.kept) MAX_FORWARDS a.ring.items (λ k d below. (has.few k d below).few), has.size, has.places)

-- a place was written: how many events all keep changes as its own number does
pub count_set : (hs : List Handed) (i : ℕ) (old new : Handed) → slice_get hs i ≡ Some old → sum_by (λ (h : Handed). h.kept) (slice_set hs i new) + old.kept ≡ sum_by (λ (h : Handed). h.kept) hs + new.kept
count_set hs i old new there =
    let here : (get_or hs i old).kept ≡ old.kept = ap (λ (h : Handed). h.kept) (get_or_from_slice_get hs i old old there) in
    omega (arith, sum_by-set (λ (h : Handed). h.kept) hs i new old (slice_get_within hs i old there), here)

-- nothing is written where nothing is
set_none : (xs : List Place) (i : ℕ) (x : Place) → slice_get xs i ≡ None → set xs i x ≡ xs
set_none [] i x none = refl
set_none (y ∷ ys) zero x none = absurd (none-some y (sym none))
set_none (y ∷ ys) (suc i) x none = ap (λ zs. y ∷ zs) (set_none ys i x none)

-- a place that is there is answered by its event's release
module _ (a : Inside) (has : HasRows a) (r : Reordering) (is : shown a ≡ r) (p : ℕ) where
  abbrev at : ℕ
  at = (p + (2 ^ 64 - a.first)) % 2 ^ 64

  module _ (h : Handed) (there : slice_get a.ring.items at ≡ Some h) where
    abbrev now : Handed
    now = record { number = h.number; kept = h.kept; answered = true }

    pub shown_resolved : shown (record { ring = record { items = slice_set a.ring.items at now; capacity = a.ring.capacity }; first = a.first; rows = a.rows; first_row = a.first_row; kept = a.kept }) ≡ after_resolve r p None
    shown_resolved =
        ap (λ (ps : List Place). let k : Reordering = record { first = a.first; places = ps; depth = a.ring.capacity } in k) (places_resolved a has at h there)
        ∙ ap (λ k. after_resolve k p None) is

    pub rows_resolved : HasRows (record { ring = record { items = slice_set a.ring.items at now; capacity = a.ring.capacity }; first = a.first; rows = a.rows; first_row = a.first_row; kept = a.kept })
    rows_resolved =
        record {
          size = has.size;
          start = has.start;
          places = omega (arith, length-set a.ring.items at now, has.places);
          few = All-set KeepsFew a.ring.items at now (record { few = (keeps_few a has at h there).few; fewer = λ still. absurd cc }) has.few;
          count = omega (arith, has.count, count_set a.ring.items at h now there);
        }

  -- one that isn't there
  pub none_resolved : slice_get a.ring.items at ≡ None → r ≡ after_resolve r p None
  none_resolved none =
      let past : slice_get r.places (index_of r p) ≡ None = subst (λ (k : Reordering). slice_get k.places (index_of k p) ≡ None) is (no_place (rows a) a.ring.items at none) in
      sym (ap (λ (ps : List Place). let k : Reordering = record { first = r.first; places = ps; depth = r.depth } in k)
      (set_none r.places (index_of r p) (resolved (slice_index_or r.places (index_of r p) (open_place 0)) None) past))

-- ---- a place by its number

module _ (a : Inside) (has : HasRows a) (r : Reordering) (is : shown a ≡ r) (p : ℕ) (unresolved : IsTrue (is_open (place_at r p))) where
  abbrev index : ℕ
  index = (p + (2 ^ 64 - a.first)) % 2 ^ 64

  unresolved_here : IsTrue (is_open (slice_get (places a) index))
  unresolved_here = subst (λ (k : Reordering). IsTrue (is_open (place_at k p))) (sym is) unresolved

  -- it is there
  pub is_there : slice_get a.ring.items index ≡ None → ⊥
  is_there none = none_open (subst (λ o. IsTrue (is_open o)) (no_place (rows a) a.ring.items index none) unresolved_here)
    where
      none_open : IsTrue (is_open None) → ⊥
      none_open o = cc

  module _ (h : Handed) (there : slice_get a.ring.items index ≡ Some h) where
    awaited : h.answered ≡ false
    awaited = answer_open (rows a index h.kept) h (subst (λ o. IsTrue (is_open o)) (place_is a has index h there) unresolved_here)

    -- an event more fits in the row
    pub row_left : h.kept < MAX_FORWARDS
    row_left = let fewer = (keeps_few a has index h there).fewer awaited in omega (arith, fewer)

    -- and one beside it where that is asked for
    pub room_left : length (place_or_open r p).forwards < MAX_EXTRAS → h.kept < MAX_EXTRAS
    room_left room =
        let forwards = ap (λ (k : Reordering). length (place_or_open k p).forwards) (sym is) ∙ ap (λ (x : Place). length x.forwards) (place_or a has index h there (open_place 0)) in
        omega (arith, room, forwards, kept_length a has index h there)

    pub more_few : (answered : Bool) → (answered ≡ false → length (place_or_open r p).forwards < MAX_EXTRAS) → KeepsFew (record { number = h.number; kept = h.kept + 1; answered = answered })
    more_few answered room =
        record {
          few = omega (arith, row_left);
          fewer = λ still. omega (arith, room_left (room still));
        }

    pub shown_kept : (e : Event) (answered : Bool) → shown (record { ring = record { items = slice_set a.ring.items index (record { number = h.number; kept = h.kept + 1; answered = answered }); capacity = a.ring.capacity }; first = a.first; rows = with_item a.rows (MAX_FORWARDS * wrapped a.ring.capacity (a.first_row + index) + h.kept) e; first_row = a.first_row; kept = a.kept + 1 }) ≡ after_keep r p e answered
    shown_kept e answered =
        ap (λ (ps : List Place). let k : Reordering = record { first = a.first; places = ps; depth = a.ring.capacity } in k) (places_kept a has index h there e answered row_left)
        ∙ ap (λ k. after_keep k p e answered) is

-- an event that is added beside an open place's leaves it open
pub added_open : (r : Reordering) (p : ℕ) (e : Event) → IsTrue (is_open (place_at r p)) → after_keep r p e false ≡ after_add r p e
added_open r p e unresolved = by_place (place_at r p) refl unresolved
  where
    not_answered : (b : Bool) → IsTrue (not b) → b ≡ false
    not_answered false o = refl
    not_answered true o = absurd cc

    by_place : (o : Option Place) → place_at r p ≡ o → IsTrue (is_open o) → after_keep r p e false ≡ after_add r p e
    by_place None there still = absurd cc
    by_place (Some x) there still =
        let open_still : (place_or_open r p).answered ≡ false = ap (λ (y : Place). y.answered) (get_or_from_slice_get r.places _ x (open_place 0) there) ∙ not_answered x.answered still in
        ap (λ b. after_keep r p e b) (sym open_still)

-- a place has an event more, and a cell was written: the rows stand as before
pub rows_stand : (a : Inside) → HasRows a → (i cell : ℕ) (old h : Handed) (e : Event) → KeepsFew h → slice_get a.ring.items i ≡ Some old → h.kept ≡ old.kept + 1
    → HasRows (record { ring = record { items = slice_set a.ring.items i h; capacity = a.ring.capacity }; first = a.first; rows = with_item a.rows cell e; first_row = a.first_row; kept = a.kept + 1 })
rows_stand a has i cell old h e few there more =
    record {
      size = length-set a.rows.items cell e ∙ has.size;
      start = has.start;
      places = omega (arith, length-set a.ring.items i h, has.places);
      few = All-set KeepsFew a.ring.items i h few has.few;
      count = omega (arith, has.count, count_set a.ring.items i old h there, more);
    }

-- ---- the oldest place leaves

module _ (all : List Event) (n first : ℕ) where
  pub places_advanced : (hs : List Handed) → first < n → length hs ≤ n → places_by (rows_from all n (wrapped n (first + 1))) (drop 1 hs) ≡ drop 1 (places_by (rows_from all n first) hs)
  places_advanced [] within few = refl
  places_advanced (h ∷ hs) within few =
      places_stay (λ i. rows_from all n first (suc i)) (rows_from all n (wrapped n (first + 1))) hs
      (λ k y there. ap (λ row. in_row all row y.kept) (row_before n first k within (omega (arith, few, slice_get_within hs k y there)) ∙ ap (λ j. wrapped n (first + j)) (omega arith)))

pub rows_advanced : (a : Inside) → HasRows a → (first kept : ℕ) → kept ≡ sum_by (λ (h : Handed). h.kept) (drop 1 a.ring.items)
    → HasRows (record { ring = buffer (drop 1 a.ring.items) a.ring.capacity; first = first; rows = a.rows; first_row = wrapped a.ring.capacity (a.first_row + 1); kept = kept })
rows_advanced a has first kept count =
    record {
      size = has.size;
      start = λ some. let within = has.start some in wrapped_within a.ring.capacity (a.first_row + 1) (omega (arith, within));
      places = omega (arith, length-drop 1 a.ring.items, has.places);
      few = All-drop KeepsFew 1 a.ring.items has.few;
      count = count;
    }

pub shown_advanced : (a : Inside) (has : HasRows a) (r : Reordering) → shown a ≡ r → 0 < length r.places → (kept : ℕ)
    → shown (record { ring = buffer (drop 1 a.ring.items) a.ring.capacity; first = (a.first + 1) % 2 ^ 64; rows = a.rows; first_row = wrapped a.ring.capacity (a.first_row + 1); kept = kept }) ≡ without_oldest r
shown_advanced a has r is some kept =
    let count = ap (λ (k : Reordering). length k.places) is in
    let there : 0 < a.ring.capacity = omega (arith, count, some, places_length (rows a) a.ring.items, has.places) in
    ap (λ (ps : List Place). let k : Reordering = record { first = (a.first + 1) % 2 ^ 64; places = ps; depth = a.ring.capacity } in k) (places_advanced a.rows.items a.ring.capacity a.first_row a.ring.items (has.start there) has.places)
    ∙ ap without_oldest is

-- ---- some of the oldest places leave, and none keeps an event

none_behind : (n : ℕ) (hs : List Handed) → sum_by (λ (h : Handed). h.kept) hs ≡ 0 → sum_by (λ (h : Handed). h.kept) (drop n hs) ≡ 0
none_behind zero hs none = none
none_behind (suc n) [] none = none
none_behind (suc n) (h ∷ hs) none = none_behind n hs (omega (arith, sum_by-cons (λ (y : Handed). y.kept) h hs, none))

pub rows_left : (a : Inside) → HasRows a → a.kept ≡ 0 → (n first : ℕ) → n ≤ length a.ring.items
    → HasRows (record { ring = buffer (drop n a.ring.items) a.ring.capacity; first = first; rows = a.rows; first_row = wrapped a.ring.capacity (a.first_row + n); kept = a.kept })
rows_left a has bare n first few =
    record {
      size = has.size;
      start = λ some. let within = has.start some in wrapped_within a.ring.capacity (a.first_row + n) (omega (arith, within, few, has.places));
      places = omega (arith, length-drop n a.ring.items, has.places);
      few = All-drop KeepsFew n a.ring.items has.few;
      count = omega (arith, bare, none_behind n a.ring.items (omega (arith, has.count, bare)));
    }

abbrev left_by : Inside → List Handed → ℕ → ℕ → Reordering
left_by a hs first row = record { first = first; places = places_by (rows_from a.rows.items a.ring.capacity row) hs; depth = a.ring.capacity }

one_behind : (n : ℕ) (hs : List Handed) → drop (suc n) hs ≡ drop n (drop 1 hs)
one_behind zero [] = refl
one_behind (suc n) [] = refl
one_behind n (h ∷ hs) = refl

first_stays : (a : Inside) → HasRows a → wrapped a.ring.capacity (a.first_row + 0) ≡ a.first_row
first_stays a has =
    ⊎_elim
    (λ some. let within = has.start some in wrapped_low a.ring.capacity (a.first_row + 0) (omega (arith, within)) ∙ omega arith)
    (λ none. wrapped_high a.ring.capacity (a.first_row + 0) (omega (arith, none)) ∙ omega (arith, none))
    (cases_lt 0 a.ring.capacity)

pub shown_left : (n : ℕ) (a : Inside) → HasRows a → (r : Reordering) → shown a ≡ r → a.kept ≡ 0 → a.first < 2 ^ 64 → n ≤ length a.ring.items
    → left_by a (drop n a.ring.items) ((a.first + n) % 2 ^ 64) (wrapped a.ring.capacity (a.first_row + n)) ≡ without_first r n
shown_left zero a has r is bare small few =
    let at : (a.first + 0) % 2 ^ 64 ≡ a.first = omega (arith, small) in
    ap (λ f. left_by a a.ring.items f (wrapped a.ring.capacity (a.first_row + 0))) at ∙ (ap (left_by a a.ring.items a.first) (first_stays a has) ∙ is)
shown_left (suc n) a has r is bare small few =
    let there : 0 < length r.places = omega (arith, few, places_length (rows a) a.ring.items, ap (λ (k : Reordering). length k.places) is) in
    let next : Inside = record { ring = buffer (drop 1 a.ring.items) a.ring.capacity; first = (a.first + 1) % 2 ^ 64; rows = a.rows; first_row = wrapped a.ring.capacity (a.first_row + 1); kept = a.kept } in
    let none : a.kept ≡ sum_by (λ (h : Handed). h.kept) (drop 1 a.ring.items) = omega (arith, bare, none_behind 1 a.ring.items (omega (arith, has.count, bare))) in
    let rest = shown_left n next (rows_advanced a has ((a.first + 1) % 2 ^ 64) a.kept none) (without_oldest r) (shown_advanced a has r is there a.kept) bare (omega arith) (omega (arith, few, length-drop 1 a.ring.items)) in
    let at : (a.first + suc n) % 2 ^ 64 ≡ ((a.first + 1) % 2 ^ 64 + n) % 2 ^ 64 = omega arith in
    let fit = has.places in
    let start = has.start (omega (arith, few, fit)) in
    let row : wrapped a.ring.capacity (a.first_row + suc n) ≡ wrapped a.ring.capacity (wrapped a.ring.capacity (a.first_row + 1) + n) =
    ap (wrapped a.ring.capacity) (omega arith) ∙ sym (row_before a.ring.capacity a.first_row n start (omega (arith, few, fit))) in
    ap (λ hs. left_by a hs ((a.first + suc n) % 2 ^ 64) (wrapped a.ring.capacity (a.first_row + suc n))) (one_behind n a.ring.items)
    ∙ (ap (λ f. left_by a (drop n (drop 1 a.ring.items)) f (wrapped a.ring.capacity (a.first_row + suc n))) at
    ∙ (ap (left_by a (drop n (drop 1 a.ring.items)) (((a.first + 1) % 2 ^ 64 + n) % 2 ^ 64)) row ∙ rest))
