-- What stands in a history's ring: before and after an entry is put behind the last one, and before and after the first one is taken.
use Rattle.std.proofs.Common.{◌≡◌, ℕ, ◌+◌, ◌-◌, ◌%◌, ◌^◌, ◌<◌, ◌≤◌, [], ◌∷◌, ◌++◌, length, get_or, set, refl, sym, subst, ap, ap₂, drop, ◌∙◌, arith, length-set}
use Rattle.std.specs.Prelude.{bit_and}
use Rattle.std.specs.Int.{IsPowerOfTwo}
use Rattle.std.specs.Vec.{with_item}
use Rattle.std.proofs.lemmas.Nat.{and_mask}
use Rattle.lists.specs.Windows.{window}
use Rattle.lists.proofs.Windows.{get_or-window, length-window, window_dropped, window_popped, window_pushed, window_none}
use Rattle.order_parts.specs.History.{Entries, entries_of}
use Rattle.order_parts.specs.Ring.{held, IsRing}
use Rattle.order_parts.specs.declared.history.Entry.{Entry}
use Rattle.order_parts.specs.declared.history.History.TheInside.{Inside}

-- a mask leaves what is left of a division by the power of two that is one more
pub masked : (n mask size : ℕ) → IsPowerOfTwo size → mask + 1 ≡ size → bit_and n mask ≡ n % size
masked n mask size power one_less =
    let below : mask ≡ 2 ^ power.0 - 1 = omega (arith, power.1, one_less) in
    ap (bit_and n) below ∙ and_mask n power.0 ∙ ap (λ m. n % m) (sym power.1)

module _ (a : Inside) (ring : IsRing a) where
  all_fit : a.len ≤ length a.ring.items
  all_fit = omega (arith, ring.few, ring.room)

  pub held_len : length (held a) ≡ a.len
  held_len = length-window (length a.ring.items) a.first a.len a.ring.items ring.first all_fit refl

  -- an entry, oldest first, at its place
  pub entry_at : (i : ℕ) (d : Entry) → i < a.len → get_or (held a) i d ≡ get_or a.ring.items (bit_and (a.first + i) a.mask) d
  entry_at i d within =
      let place = masked (a.first + i) a.mask (length a.ring.items) ring.power ring.mask in
      get_or-window (length a.ring.items) a.first a.len a.ring.items ring.first all_fit refl i d within ∙ ap (λ j. get_or a.ring.items j d) (sym place)

  pub has_room : (h : Entries) → entries_of (held a) a.capacity ≡ h → length h.entries < h.capacity → a.len < a.capacity
  has_room h is room = omega (arith, room, held_len, ap (λ (e : Entries). length e.entries) is, ap (λ (e : Entries). e.capacity) is)

  pub none_held : a.len ≡ 0 → held a ≡ []
  none_held none = ap (λ n. window a.first n a.ring.items) none ∙ window_none a.first a.ring.items

  pub one_more : (e : Entry) → a.len < a.capacity → window a.first (a.len + 1) (set a.ring.items (bit_and (a.first + a.len) a.mask) e) ≡ held a ++ e ∷ []
  one_more e room =
      let place = masked (a.first + a.len) a.mask (length a.ring.items) ring.power ring.mask in
      ap (λ i. window a.first (a.len + 1) (set a.ring.items i e)) place ∙ window_pushed (length a.ring.items) a.first a.len a.ring.items ring.first all_fit refl e (omega (arith, room, ring.room))

  pub one_less : (e : Entry) → e ≡ get_or a.ring.items a.first e → (a.len ≡ 0 → ⊥) → held a ≡ e ∷ window (bit_and (a.first + 1) a.mask) (a.len - 1) a.ring.items
  one_less e oldest some =
      let place = masked (a.first + 1) a.mask (length a.ring.items) ring.power ring.mask in
      window_popped (length a.ring.items) a.first a.len a.ring.items ring.first all_fit refl e (omega (arith, some))
      ∙ ap₂ ◌∷◌ (sym oldest) (ap (λ k. window k (a.len - 1) a.ring.items) (sym place))

  pub ring_written : (i : ℕ) (e : Entry) → a.len < a.capacity → IsRing (record a { ring = with_item a.ring i e; len = a.len + 1 })
  ring_written i e room =
      let size = length-set a.ring.items i e in
      record {
        power = subst IsPowerOfTwo (sym size) ring.power;
        mask = ring.mask ∙ sym size;
        first = omega (arith, ring.first, size);
        few = omega (arith, room);
        room = omega (arith, ring.room, size);
      }

  pub fewer_held : (c : ℕ) → c ≤ a.len → drop c (held a) ≡ window (bit_and (a.first + c) a.mask) (a.len - c) a.ring.items
  fewer_held c few =
      let place = masked (a.first + c) a.mask (length a.ring.items) ring.power ring.mask in
      window_dropped (length a.ring.items) a.first a.len a.ring.items ring.first all_fit refl c few ∙ ap (λ k. window k (a.len - c) a.ring.items) (sym place)
