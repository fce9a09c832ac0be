-- The rings after a change of one of them. `slice_index_or bs k d` is the ring of level k as the code reads it.
use Rattle.std.proofs.Common.{◌≡◌, ◌≢◌, ℕ, ◌<◌, ◌≤◌, ◌↔◌, List, [], ◌∷◌, ◌++◌, length, map, refl, ap, subst, sym, ◌∙◌, arith, true, false, zero, suc, slice_get, slice_index_or, slice_set, Option, Some, None, Result, Ok, Err, ⊎_elim}
use Rattle.std.specs.Borrow.{Bor}
use Rattle.std.specs.List.{remove}
use Rattle.std.specs.Prelude.{All, IfSome, IsOk, OnOk, OnErr, IfErr, MatchOption, option_copied}
use Rattle.std.proofs.lemmas.Bool.{cases_eq}
use Rattle.std.proofs.lemmas.List.{length-map, length-append, map-set, get_or-set_same, get_or-set_other, get_or_default}
use Rattle.std.proofs.lemmas.List.Elements.{All-push}
use Rattle.circular_buffer.specs.Buffer.{Buffer, buffer}
use Rattle.evt_types.specs.Plan.{level_of}
use Rattle.evt_types.specs.declared.event.Numbered.{Numbered}
use Rattle.level_queues.specs.Lists.{Lists, AreLevels, IsOfLevel, list_at, with_list, without, lists_of, ring_at, events_in}
use Rattle.level_queues.specs.Rings.{AreRings}
use Rattle.level_queues.proofs.Lists.{AreLevels-with_list, level_of_found, without-none}
use Rattle.level_queues.proofs.Removed.{length_remove_le, All-remove}

-- a level's list is what its ring holds
list_at-ring : (bs : List (Buffer Numbered)) (k : ℕ) → list_at (lists_of bs) k ≡ (ring_at bs k).items
list_at-ring [] k = refl
list_at-ring (b ∷ bs) zero = refl
list_at-ring (b ∷ bs) (suc k) = list_at-ring bs k

module _ (bs : List (Buffer Numbered)) (k : ℕ) (d : Buffer Numbered) (h : AreRings bs) (p : k < 4) where
  -- each level has a ring
  there : k < length bs
  there = omega (arith, p, h.sound.four, length-map bs events_in)

  read : ring_at bs k ≡ slice_index_or bs k d
  read = get_or_default bs k (buffer [] 0) d there

  items_read : list_at (lists_of bs) k ≡ (slice_index_or bs k d).items
  items_read = list_at-ring bs k ∙ ap (λ (b : Buffer Numbered). b.items) read

  capacity_read : (slice_index_or bs k d).capacity ≡ (lists_of bs).capacity
  capacity_read = ap (λ (b : Buffer Numbered). b.capacity) (sym read) ∙ h.same k p

  all_read : All (IsOfLevel k) (slice_index_or bs k d).items
  all_read = subst (All (IsOfLevel k)) items_read (h.sound.levelled k)

  within_read : length (slice_index_or bs k d).items ≤ (slice_index_or bs k d).capacity
  within_read = omega (arith, h.sound.within k, ap length items_read, capacity_read)

  -- the event that is taken out of it is of the level
  pub level_taken : (i : ℕ) (r : Option Numbered) → r ≡ slice_get (slice_index_or bs k d).items i → IfSome r (IsOfLevel k)
  level_taken i r e = level_of_found k (slice_index_or bs k d).items i r all_read e

  -- and so is the one that is shown
  pub level_shown : (i : ℕ) (r : Option (Bor Numbered)) → option_copied r ≡ slice_get (slice_index_or bs k d).items i → IfSome r (λ (n : Bor Numbered). IsOfLevel k n.now)
  level_shown i None e = tt
  level_shown i (Some n) e = level_taken i (Some n.now) e

  -- how many events its list has, and how many it may have
  count_read : (m : ℕ) (v : Lists) → k ≡ m → lists_of bs ≡ v → length (list_at v m) ≡ length (slice_index_or bs k d).items
  count_read m v l w = ap length (ap (list_at v) (sym l) ∙ ap (λ (u : Lists). list_at u k) (sym w) ∙ items_read)

  bound_read : (v : Lists) → lists_of bs ≡ v → v.capacity ≡ (slice_index_or bs k d).capacity
  bound_read v w = ap (λ (u : Lists). u.capacity) (sym w) ∙ sym capacity_read

  -- it has room where its list has fewer events than it may
  pub room_read : (m : ℕ) (v : Lists) (P : Type 0) → k ≡ m → lists_of bs ≡ v → (P ↔ (length (slice_index_or bs k d).items < (slice_index_or bs k d).capacity)) → (P ↔ (length (list_at v m) < v.capacity))
  room_read m v P l w f =
      let items = count_read m v l w in
      let capacity = bound_read v w in (
        λ (q : P). let room : length (slice_index_or bs k d).items < (slice_index_or bs k d).capacity = f.0 q in omega (arith, room, items, capacity),
        λ (room : length (list_at v m) < v.capacity). f.1 (omega (arith, room, items, capacity)),
      )

  -- where nothing comes behind, it has as many events as it may
  pub full_read : (m : ℕ) (v : Lists) (r : Result (Unit {0}) Numbered) → k ≡ m → lists_of bs ≡ v → (IsOk r ↔ (length (slice_index_or bs k d).items < (slice_index_or bs k d).capacity)) → OnErr r (length (list_at v m) ≡ v.capacity)
  full_read m v (Ok u) l w f = tt
  full_read m v (Err y) l w f =
      let items = count_read m v l w in
      let capacity = bound_read v w in
      let none : length (slice_index_or bs k d).items < (slice_index_or bs k d).capacity → ⊥ =
      λ (room : length (slice_index_or bs k d).items < (slice_index_or bs k d).capacity). let ok : false ≡ true = f.1 room in cc in
      omega (arith, none, items, capacity, within_read)

  -- it is written, of the same capacity
  module _ (x : Buffer Numbered) (c : x.capacity ≡ (slice_index_or bs k d).capacity) where
    capacity_at : (m : ℕ) → m < 4 → (ring_at (slice_set bs k x) m).capacity ≡ (lists_of bs).capacity
    capacity_at m q =
        ⊎_elim
        (λ (e : m ≡ k).
        ap (λ (j : ℕ). (ring_at (slice_set bs k x) j).capacity) e
        ∙ ap (λ (b : Buffer Numbered). b.capacity) (get_or-set_same bs k x (buffer [] 0) there)
        ∙ c
        ∙ capacity_read)
        (λ (n : m ≢ k). ap (λ (b : Buffer Numbered). b.capacity) (get_or-set_other bs k m x (buffer [] 0) n) ∙ h.same m q)
        (cases_eq m k)

    lists_of-set : lists_of (slice_set bs k x) ≡ with_list (lists_of bs) k x.items
    lists_of-set =
        ap (λ (n : ℕ). let y : Lists = record { capacity = n; lists = map events_in (slice_set bs k x) } in y) (capacity_at 0 (omega arith))
        ∙ ap (λ (xss : List (List Numbered)). let y : Lists = record { capacity = (lists_of bs).capacity; lists = xss } in y) (map-set events_in bs k x)

    kept : length x.items ≤ (slice_index_or bs k d).capacity → All (IsOfLevel k) x.items → AreRings (slice_set bs k x)
    kept room all =
        let within : length x.items ≤ (lists_of bs).capacity = omega (arith, room, capacity_read) in
        record {
          same = λ (m : ℕ) (q : m < 4). capacity_at m q ∙ sym (capacity_at 0 (omega arith));
          sound = subst AreLevels (sym lists_of-set) (AreLevels-with_list (lists_of bs) k x.items h.sound p within all);
        }

  module _ (x : Buffer Numbered) where
    -- an event is taken out
    pub kept_without : (i : ℕ) → x ≡ buffer (remove (slice_index_or bs k d).items i) (slice_index_or bs k d).capacity → AreRings (slice_set bs k x)
    kept_without i w =
        let items : x.items ≡ remove (slice_index_or bs k d).items i = ap (λ (b : Buffer Numbered). b.items) w in
        let fewer : length x.items ≤ (slice_index_or bs k d).capacity = omega (arith, ap length items, length_remove_le (slice_index_or bs k d).items i, within_read) in
        kept x (ap (λ (b : Buffer Numbered). b.capacity) w) fewer
        (subst (All (IsOfLevel k)) (sym items) (All-remove (IsOfLevel k) (slice_index_or bs k d).items i all_read))

    by_item : (i : ℕ) (r : Option Numbered) (v : Lists) → r ≡ slice_get (list_at v k) i → lists_of (slice_set bs k x) ≡ without v k i → MatchOption r (lists_of (slice_set bs k x) ≡ v) (λ (n : Numbered). lists_of (slice_set bs k x) ≡ without v k i)
    by_item i None v e gone = gone ∙ without-none v k i (sym e)
    by_item i (Some n) v e gone = gone

    -- what is left then
    pub rest_without : (i : ℕ) (r : Option Numbered) (v : Lists) → lists_of bs ≡ v → r ≡ slice_get (slice_index_or bs k d).items i → x ≡ buffer (remove (slice_index_or bs k d).items i) (slice_index_or bs k d).capacity → MatchOption r (lists_of (slice_set bs k x) ≡ v) (λ (n : Numbered). lists_of (slice_set bs k x) ≡ without v k i)
    rest_without i r v o e w =
        let gone : lists_of (slice_set bs k x) ≡ without v k i =
        lists_of-set x (ap (λ (b : Buffer Numbered). b.capacity) w)
        ∙ ap (with_list (lists_of bs) k) (ap (λ (b : Buffer Numbered). b.items) w ∙ ap (λ (xs : List Numbered). remove xs i) (sym items_read))
        ∙ ap (λ (u : Lists). without u k i) o in
        let item : r ≡ slice_get (list_at v k) i = e ∙ ap (λ (xs : List Numbered). slice_get xs i) (sym items_read) ∙ ap (λ (u : Lists). slice_get (list_at u k) i) o in
        by_item i r v item gone

    -- an event of the level comes behind the others, where there is room
    pub kept_pushed : (n : Numbered) (r : Result (Unit {0}) Numbered) → level_of n.event ≡ k → (IsOk r ↔ (length (slice_index_or bs k d).items < (slice_index_or bs k d).capacity)) → OnOk r (x ≡ buffer ((slice_index_or bs k d).items ++ n ∷ []) (slice_index_or bs k d).capacity) → IfErr r (λ (y : Numbered). (y ≡ n) × (x ≡ slice_index_or bs k d)) → AreRings (slice_set bs k x)
    kept_pushed n (Ok u) l f ok err =
        let room : length (slice_index_or bs k d).items < (slice_index_or bs k d).capacity = f.0 refl in
        let items : x.items ≡ (slice_index_or bs k d).items ++ n ∷ [] = ap (λ (b : Buffer Numbered). b.items) ok in
        let more : length x.items ≤ (slice_index_or bs k d).capacity = omega (arith, ap length items, length-append (slice_index_or bs k d).items (n ∷ []), room) in
        kept x (ap (λ (b : Buffer Numbered). b.capacity) ok) more
        (subst (All (IsOfLevel k)) (sym items) (All-push (IsOfLevel k) (slice_index_or bs k d).items n all_read l))
    kept_pushed n (Err y) l f ok err =
        let items : x.items ≡ (slice_index_or bs k d).items = ap (λ (b : Buffer Numbered). b.items) err.1 in
        let as_many : length x.items ≤ (slice_index_or bs k d).capacity = omega (arith, ap length items, within_read) in
        kept x (ap (λ (b : Buffer Numbered). b.capacity) err.1) as_many (subst (All (IsOfLevel k)) (sym items) all_read)
