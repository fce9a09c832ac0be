-- What is held, in its ring and beside the lists of the lane.
use Rattle.std.proofs.Common.{◌≡◌, ℕ, ◌+◌, ◌-◌, ◌%◌, ◌<◌, ◌≤◌, List, [], ◌∷◌, ◌++◌, length, length-set, map, drop, take, get_or, set, slice_get, None, Some, refl, sym, ap, ◌∙◌, arith}
use Rattle.std.proofs.Math.Seq.{drop-append-le}
use Rattle.std.proofs.lemmas.Grind.{common_steps}
use Rattle.std.proofs.lemmas.List.{append_assoc, drop_all, drop-drop, drop-map, map-append, take_more}
use Rattle.std.proofs.lemmas.Option.{slice_get_past, slice_get_read}
use Rattle.evt_types.specs.Event.{pair_of}
use Rattle.evt_types.specs.declared.event.Delivery.{Delivery}
use Rattle.lists.specs.Windows.{window}
use Rattle.lane_rings.specs.HeldPairs.{Held, holds}
use Rattle.lane_rings.specs.HeldRing.{in_ring, IsRing}
use Rattle.lane_rings.specs.declared.held_pairs.HeldPairs.TheInside.{Inside}
use Rattle.lists.proofs.Windows.{get_or-window, length-window, window_dropped, window_pushed}

-- ---- the ring

module _ (a : Inside) (ring : IsRing a) where
  pub length_held : length (in_ring a) ≡ a.len
  length_held = length-window (length a.places.items) a.first a.len a.places.items ring.first ring.few refl

  -- the same of the list that the ring stands for
  pub length_is : (v : Held) → holds (in_ring a) (length a.places.items) ≡ v → length v.items ≡ a.len
  length_is v is = sym (ap (λ (h : Held). length h.items) is) ∙ length_held

  pub fewer_held : (n : ℕ) → n ≤ a.len → window ((a.first + n) % length a.places.items) (a.len - n) a.places.items ≡ drop n (in_ring a)
  fewer_held n within = sym (window_dropped (length a.places.items) a.first a.len a.places.items ring.first ring.few refl n within)

  -- the one behind so many, or none where there are no more
  pub one_held : (n : ℕ) (p : ℕ × ℕ) → p ≡ get_or a.places.items ((a.first + n) % length a.places.items) p → n < a.len → Some p ≡ slice_get (in_ring a) n
  one_held n p there within =
      sym (slice_get_read (in_ring a) a.len n p (sym length_held) within (there ∙ sym (get_or-window (length a.places.items) a.first a.len a.places.items ring.first ring.few refl n p within)))

  pub no_more_held : (n : ℕ) → a.len ≤ n → None ≡ slice_get (in_ring a) n
  no_more_held n past = sym (slice_get_past (in_ring a) n (omega (arith, length_held, past)))

  -- one more behind them
  pub one_pushed : (p : ℕ × ℕ) → a.len < length a.places.items
      → holds (window a.first (a.len + 1) (set a.places.items ((a.first + a.len) % length a.places.items) p)) (length (set a.places.items ((a.first + a.len) % length a.places.items) p)) ≡ holds (in_ring a ++ p ∷ []) (length a.places.items)
  one_pushed p room =
      let last = (a.first + a.len) % length a.places.items in
      ap (λ n. holds (window a.first (a.len + 1) (set a.places.items last p)) n) (length-set a.places.items last p)
      ∙ ap (λ ps. holds ps (length a.places.items)) (window_pushed (length a.places.items) a.first a.len a.places.items ring.first ring.few refl p room)

  -- there is room for so many more
  pub has_room : (v : Held) (n : ℕ) → holds (in_ring a) (length a.places.items) ≡ v → length v.items + n ≤ v.room → a.len + n ≤ length a.places.items
  has_room v n is room = omega (arith, room, length_is v is, ap (λ (h : Held). h.room) is)

-- ---- what is received and what is answered

-- what was received is held behind the others
pub more_held : (n : ℕ) (xs ys : List Delivery) → n ≤ length xs → map pair_of (drop n (xs ++ ys)) ≡ map pair_of (drop n xs) ++ map pair_of ys
more_held n xs ys within = ap (map pair_of) (drop-append-le n xs ys within) ∙ map-append pair_of (drop n xs) ys

-- the same beside what is noted
pub more_are : (n : ℕ) (xs ys zs : List Delivery) (before after : List (ℕ × ℕ)) → before ≡ map pair_of (drop n xs) → n ≤ length xs → after ≡ before ++ map pair_of ys → zs ≡ xs ++ ys → after ≡ map pair_of (drop n zs)
more_are n xs ys zs before after are within noted all =
    noted ∙ (ap (λ ps. ps ++ map pair_of ys) are ∙ (sym (more_held n xs ys within) ∙ ap (λ ds. map pair_of (drop n ds)) (sym all)))

-- nothing is held where all is answered
pub none_are : (n : ℕ) (xs : List Delivery) (after : List (ℕ × ℕ)) → after ≡ [] → length xs ≤ n → after ≡ map pair_of (drop n xs)
none_are n xs after none all = none ∙ sym (ap (map pair_of) (drop_all n xs all))

-- what was answered is held no more
pub answered_held : (n k : ℕ) (xs : List Delivery) → map pair_of (drop (n + k) xs) ≡ drop k (map pair_of (drop n xs))
answered_held n k xs = ap (map pair_of) (grind (arith, common_steps, drop-drop k n xs)) ∙ sym (drop-map pair_of k (drop n xs))

-- ---- one is noted behind others

pub one_noted : (first len i : ℕ) (places before : List (ℕ × ℕ)) (ds : List Delivery) (d : Delivery) → first < length places → len < length places → i < length ds → d ≡ get_or ds i d
    → window first len places ≡ before ++ map pair_of (take i ds) → window first (len + 1) (set places ((first + len) % length places) (pair_of d)) ≡ before ++ map pair_of (take (i + 1) ds)
one_noted first len i places before ds d within room there is so_far =
    window_pushed (length places) first len places within (omega (arith, room)) refl (pair_of d) room
    ∙ (ap (λ ps. ps ++ pair_of d ∷ []) so_far
    ∙ (append_assoc before (map pair_of (take i ds)) (pair_of d ∷ [])
    ∙ ap (λ ps. before ++ ps) (sym (map-append pair_of (take i ds) (d ∷ [])) ∙ ap (map pair_of) (ap (λ x. take i ds ++ x ∷ []) is ∙ sym (take_more ds i d there)))))
