-- What stands in the ring: before and after something is put behind the last, and before and after the first is taken.
use Rattle.std.proofs.Common.{◌≡◌, ℕ, ◌+◌, ◌-◌, ◌%◌, ◌<◌, ◌≤◌, Bool, true, false, List, [], ◌∷◌, ◌++◌, length, map, drop, get_or, set, slice_get, Some, sym, ap, ◌∙◌, mod-eq_of_lt, arith}
use Rattle.std.proofs.lemmas.List.{append_assoc, drop_more}
use Rattle.std.proofs.lemmas.Option.{slice_get_read}
use Rattle.evt_types.specs.declared.event.Delivery.{Delivery}
use Rattle.lists.proofs.Windows.{get_or-window, length-window, window_dropped, window_none, window_pushed}
use Rattle.lists.specs.Windows.{window}
use Rattle.event_ports.specs.HeldRings.{Held, holds}
use Rattle.event_ports.specs.Ring.{in_ring, IsRing}
use Rattle.event_ports.specs.Lanes.{holding_of}
use Rattle.event_ports.specs.declared.lane.Holding.{Holding}
use Rattle.event_ports.specs.declared.lane.Lane.{Lane}
use Rattle.event_ports.specs.declared.held_ring.HeldRing.TheInside.{Inside}

-- the first one
pub window_first : {X : Type 0} (size k n : ℕ) (xs : List X) → k < size → n ≤ size → length xs ≡ size → (d : X) → 0 < n → window k n xs ≡ get_or xs k d ∷ drop 1 (window k n xs)
window_first size k n xs within fits length_xs d some =
    let length_old = length-window size k n xs within fits length_xs in
    let none : k + 0 ≡ k = omega arith in
    let here : (k + 0) % size ≡ k = ap (λ j. j % size) none ∙ mod-eq_of_lt within in
    drop_more (window k n xs) 0 d (omega arith)
    ∙ ap (λ x. x ∷ drop 1 (window k n xs)) (get_or-window size k n xs within fits length_xs 0 d some ∙ ap (λ j. get_or xs j d) here)

-- ---- the ring of a port

-- it notes what comes, or it doesn't
pub flag_clash : (b : Bool) → b ≡ false → b ≡ true → ⊥
flag_clash true is_false is_true = absurd (cc)
flag_clash false is_false is_true = absurd (cc)

-- one delivery more is noted
pub one_noted : (first len position : ℕ) (lane : Lane) (places : List Holding) (ds : List Delivery) (d : Delivery) → length places ≡ 64 → first < 64 → len < 64 → position < length ds → d ≡ get_or ds position d
    → window first (len + 1) (set places ((first + len) % 64) (holding_of lane d)) ++ map (holding_of lane) (drop (position + 1) ds) ≡ window first len places ++ map (holding_of lane) (drop position ds)
one_noted first len position lane places ds d length_places within room there is =
    ap (λ hs. hs ++ map (holding_of lane) (drop (position + 1) ds)) (window_pushed 64 first len places within (omega (arith, room)) length_places (holding_of lane d) room)
    ∙ append_assoc (window first len places) (holding_of lane d ∷ []) (map (holding_of lane) (drop (position + 1) ds))
    ∙ ap (λ xs. window first len places ++ map (holding_of lane) xs) (ap (λ x. x ∷ drop (position + 1) ds) is ∙ sym (drop_more ds position d there))

module _ (a : Inside) (ring : IsRing a) where
  all_fit : a.len ≤ 64
  all_fit = omega (arith, ring.few, ring.room)

  pub length_held : length (in_ring a) ≡ a.len
  length_held = length-window 64 a.first a.len a.places.items ring.first all_fit ring.places

  pub has_room : (v : Held) (n : ℕ) → holds (in_ring a) a.capacity a.notes ≡ v → length v.items + n ≤ v.capacity → a.len + n ≤ a.capacity
  has_room v n is room = omega (arith, room, length_held, ap (λ (v : Held). length v.items) is, ap (λ (v : Held). v.capacity) is)

  pub held_within : (v : Held) (n : ℕ) → holds (in_ring a) a.capacity a.notes ≡ v → n ≤ length v.items → n ≤ a.len
  held_within v n is within = omega (arith, within, length_held, ap (λ (v : Held). length v.items) is)

  -- the one behind so many
  pub held_at : (n : ℕ) (h : Holding) → h ≡ get_or a.places.items ((a.first + n) % 64) h → n < a.len → slice_get (in_ring a) n ≡ Some h
  held_at n h there within =
      slice_get_read (in_ring a) a.len n h (sym length_held) within (there ∙ sym (get_or-window 64 a.first a.len a.places.items ring.first all_fit ring.places n h within))

  pub none_held : a.len ≡ 0 → in_ring a ≡ []
  none_held none = ap (λ n. window a.first n a.places.items) none ∙ window_none a.first a.places.items

  pub fewer_held : (n : ℕ) → n ≤ a.len → window ((a.first + n) % 64) (a.len - n) a.places.items ≡ drop n (in_ring a)
  fewer_held n within = sym (window_dropped 64 a.first a.len a.places.items ring.first all_fit ring.places n within)

  pub one_less : 0 < a.len → window ((a.first + 1) % 64) (a.len - 1) a.places.items ≡ drop 1 (in_ring a)
  one_less some = fewer_held 1 (omega (arith, some))

  pub first_held : (h : Holding) → h ≡ get_or a.places.items a.first h → 0 < a.len → Some h ≡ slice_get (in_ring a) 0
  first_held h oldest some =
      ap Some oldest ∙ sym (ap (λ hs. slice_get hs 0) (window_first 64 a.first a.len a.places.items ring.first all_fit ring.places h some))
