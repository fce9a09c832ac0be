-- What a call makes of one queue.
use Rattle.std.proofs.Common.{◌≡◌, ◌≢◌, ℕ, ◌+◌, ◌-◌, ◌^◌, ◌<◌, ◌≤◌, true, false, List, [], ◌∷◌, ◌++◌, nat_lt, drop, length, set, get_or, filter, Option, Some, None, slice_get, ◌⊎◌, inl, inr, refl, sym, ap, ◌∙◌, subst, arith}
use Rattle.std.specs.Option.{is_some}
use Rattle.std.proofs.lemmas.Bool.{cond_both, false≢true}
use Rattle.std.proofs.lemmas.List.{get_or_default, length_push}
use Rattle.std.proofs.lemmas.List.Kept.{AllPairs-filter}
use Rattle.evt_types.specs.Plan.{level_of}
use Rattle.evt_types.specs.declared.event.Event.{Event}
use Rattle.evt_types.specs.declared.event.Numbered.{Numbered}
use Rattle.small_set.specs.SmallSets.{Has, SameBut}
use Rattle.small_set.specs.declared.set.SmallSet.{SmallSet}
use Rattle.parked_queue.specs.Heads.{AreHeads, HasNoHead, IsFirstSlot, number_at, number_of, row_at}
use Rattle.parked_queue.specs.Lists.{Lists, has_number, list_at, total_of, with_last, with_list, without_first}
use Rattle.parked_queue.specs.Marks.{IsMasked, marks_at}
use Rattle.parked_queue.specs.Merge.{is_in}
use Rattle.parked_queue.specs.Parkings.{IsBut, IsChanged, IsParted, kept, parted_by, segment, waits_by}
use Rattle.parked_queue.specs.Parted.{HasMarks, HasNoneParked, IsFirstParked, Parted, below_at, list_in, own_first, list_of_slot, list_of_number, list_of, list_count, with_below, with_waits}
use Rattle.parked_queue.specs.Waits.{IsOnlyOf, IsRising, Waits, is_other, slot_of, with_event, without_number}
use Rattle.parked_queue.specs.declared.parking.Parking.{Parking}
use Rattle.parked_queue.proofs.Accepting.{accepted_held, total_held}
use Rattle.parked_queue.proofs.Best.{first_numbered, mark_gone, marks_held, none_numbered, slot_of_head, some_numbered}
use Rattle.parked_queue.proofs.Holding.{Holds, held, holds_held, list_held, slot_within, view_held}
use Rattle.parked_queue.proofs.Noting.{heads_noted}
use Rattle.parked_queue.proofs.Parks.{level_of_own, number_fits, set_aside}
use Rattle.parked_queue.proofs.Segments.{but_none, but_one, but_then, segment_at, segment_first, segment_last, segment_length, segment_with}
use Rattle.parked_queue.proofs.Taking.{head_held, list_of_number_within, taken_held}
use Rattle.parked_queue.proofs.Totals.{total_without}

-- one change after another
pub changed_on : (l m k : Lists) (p x y : Parking) (u w : Waits) → IsChanged l p m x u → IsChanged m x k y w → IsChanged l p k y w
changed_on l m k p x y u w first then =
    record {
      part = then.part;
      base = then.base ∙ first.base;
      slots = then.slots ∙ first.slots;
      but = but_then p.base (list_count p.slots) l m k first.but (subst (λ b. IsBut b (list_count p.slots) m k) first.base (subst (λ s. IsBut x.base (list_count s) m k) first.slots then.but));
      waits = then.waits;
    }

pub changed_then : (l m k : Lists) (p x y : Parking) → IsChanged l p m x (waits_by l p) → IsChanged m x k y (waits_by m x) → IsChanged l p k y (waits_by l p)
changed_then l m k p x y first then = subst (λ w. IsChanged l p k y w) first.waits (changed_on l m k p x y (waits_by l p) (waits_by m x) first then)

-- a change after one that changed what waits
pub changed_last : (l m : Lists) (p x y : Parking) (w : Waits) → IsChanged l p m x w → IsChanged m x m y (waits_by m x) → IsChanged l p m y w
changed_last l m p x y w first then = subst (λ u. IsChanged l p m y u) first.waits (changed_on l m m p x y w (waits_by m x) first then)

module _ (l : Lists) (p : Parking) (is : IsParted l p) where
  abbrev v : Parted
  v = parted_by l p

  abbrev n : ℕ
  n = list_count p.slots

  pub holds : Holds (kept l p) v
  holds = held (kept l p) v is.parking refl

  pub masked_slots : IsMasked p.slots p.mask
  masked_slots = record { some = is.parking.waits.some; few = is.parking.waits.few; mask = is.parking.mask }

  some : 0 < p.slots
  some = is.parking.waits.some

  pub few_slots : p.slots ≤ 64
  few_slots = is.parking.waits.few

  changed : (m : Lists) (x : Parking) (u : Parted) → x.base ≡ p.base → x.slots ≡ p.slots → IsBut p.base n l m → Holds (kept m x) u → x.count ≡ length u.waits.waiting → total_of l + length u.waits.waiting ≤ l.room + length v.waits.waiting → IsChanged l p m x u.waits
  changed m x u base slots but holds_now count fits =
      let same : parted_by m x ≡ u = view_held (kept m x) u holds_now in
      let within = is.within in
      let few = is.few in
      let long = but.count in
      let room = but.room in
      let both = but.total in
      let before : total_of (segment l p.base n) ≡ length v.waits.waiting = total_held (kept l p) v holds in
      let after : total_of (segment m p.base n) ≡ length u.waits.waiting =
      ap (λ b. total_of (segment m b n)) (sym base) ∙ (ap (λ k. total_of (segment m x.base (list_count k))) (sym slots) ∙ total_held (kept m x) u holds_now) in
      record {
        part =
            record {
              parking = holds_held (kept m x) u holds_now;
              count = count ∙ sym (ap (λ (y : Parted). length y.waits.waiting) same);
              within = omega arith;
              few = omega arith;
              room = omega arith;
            };
        base = base;
        slots = slots;
        but = but;
        waits = ap (λ (y : Parted). y.waits) same;
      }

  still : total_of l + length v.waits.waiting ≤ l.room + length v.waits.waiting
  still = let bound = is.room in omega arith

  -- ---- the lists

  -- the list of a level, and of a level and a slot
  pub level_list : (c : ℕ) → c < 4 → c < n
  level_list c less = let s = some in omega arith

  pub slot_list : (c slot k : ℕ) → c < 4 → slot < p.slots → k ≡ list_of_slot slot c → k < n
  slot_list c slot k level less list = omega arith

  -- a list of the queue's, by its number among these
  pub list_there : (k : ℕ) → k < n → p.base + k < length l.lists
  list_there k less = let within = is.within in omega arith

  pub list_fits : (k : ℕ) → k < n → p.base + k ≤ 16640
  list_fits k less = let within = is.within in let few = is.few in omega arith

  pub list_is : (k : ℕ) → k < n → list_at l (p.base + k) ≡ list_in v k
  list_is k less = sym (segment_at l p.base n k less) ∙ list_held (kept l p) v k holds less

  -- the row of a level, as it is when a number of it is noted
  pub noted_row : (c slot i j : ℕ) (d row : List ℕ) → c < 4 → row ≡ set (get_or p.heads c d) slot i → i ≡ j → row ≡ set (row_at p.heads c) slot j
  noted_row c slot i j d row level e same =
      e
      ∙ (ap (λ r. set r slot i) (get_or_default p.heads c d [] (let four = is.parking.heads.four in omega arith)) ∙ ap (set (row_at p.heads c) slot) same)

  -- the number that is noted, as the queue's own lists have it
  noted_here : (m : Lists) (c slot k : ℕ) (row : List ℕ) → k < n → k ≡ list_of_slot slot c → row ≡ set (row_at p.heads c) slot (number_of (slice_get (list_at m (p.base + k)) 0))
      → row ≡ set (row_at p.heads c) slot (number_of (slice_get (list_at (segment m p.base n) (list_of_slot slot c)) 0))
  noted_here m c slot k row within list noted =
      noted
      ∙ (ap (λ us. set (row_at p.heads c) slot (number_of (slice_get us 0))) (sym (segment_at m p.base n k within))
      ∙ ap (λ i. set (row_at p.heads c) slot (number_of (slice_get (list_at (segment m p.base n) i) 0))) list)

  -- what stands first in a list
  pub first_is : (k j : ℕ) → j < n → k ≡ j → (o : Option Numbered) → o ≡ slice_get (list_at l (p.base + k)) 0 → o ≡ slice_get (list_in v j) 0
  first_is k j less list o e = e ∙ (ap (λ i. slice_get (list_at l (p.base + i)) 0) list ∙ ap (λ us. slice_get us 0) (list_is j less))

  pub rises : (k : ℕ) → k < n → IsRising (list_at l (p.base + k))
  rises k less = subst IsRising (sym (list_is k less)) (AllPairs-filter (λ (u w : Numbered). u.number < w.number) (is_in (list_of p.slots p.below) k) v.waits.waiting is.parking.waits.rising)

  -- the slots of a level that are marked
  pub marks_are : (c : ℕ) → HasMarks v c (marks_at p.parked c)
  marks_are c = marks_held (kept l p) v c holds

  -- ---- the first events that are set aside

  -- the row of a level, as it is read
  pub row_long : (c k : ℕ) (d : List ℕ) → c < 4 → k < p.slots → k < length (get_or p.heads c d)
  row_long c k d level less =
      let long = is.parking.heads.long c level in
      subst (λ r. k < length r) (sym (get_or_default p.heads c d [] (let four = is.parking.heads.four in omega arith))) (omega arith)

  row_is : (c s : ℕ) → c < 4 → s < p.slots → number_at (row_at p.heads c) s ≡ number_of (slice_get (list_in v (list_of_slot s c)) 0)
  row_is c s level less = is.parking.heads.first c s level less ∙ ap (λ us. number_of (slice_get us 0)) (list_held (kept l p) v (list_of_slot s c) holds (slot_list c s (list_of_slot s c) level less refl))

  module _ (c : ℕ) (d : List ℕ) (marked : SmallSet) (level : c < 4) where
    as_row : get_or p.heads c d ≡ row_at p.heads c
    as_row = get_or_default p.heads c d [] (let four = is.parking.heads.four in omega arith)

    pub none_aside_of : HasNoHead (get_or p.heads c d) marked → HasNoneParked v c marked
    none_aside_of none = none_numbered v c (row_at p.heads c) is.parking.waits level (λ s less. row_is c s level less) marked (subst (λ r. HasNoHead r marked) as_row none)

    module _ (s k : ℕ) (o : Option Numbered) (less : s < p.slots) (first : IsFirstSlot (get_or p.heads c d) marked s) (list : k ≡ list_of_slot s c) (read : o ≡ slice_get (list_at l (p.base + k)) 0) where
      as_first : o ≡ slice_get (list_in v (list_of_slot s c)) 0
      as_first = first_is k (list_of_slot s c) (slot_list c s (list_of_slot s c) level less refl) list o read

      pub first_aside_of : (w : Numbered) → o ≡ Some w → IsFirstParked v c marked w
      first_aside_of w e = first_numbered v c (row_at p.heads c) is.parking.waits level (λ t lower. row_is c t level lower) marked s less (subst (λ r. IsFirstSlot r marked s) as_row first) w (sym as_first ∙ e)

      pub slot_aside_of : (w : Numbered) → o ≡ Some w → s ≡ slot_of p.slots w
      slot_aside_of w e = slot_of_head v c s is.parking.waits level w (sym as_first ∙ e)

      pub some_aside_of : o ≢ None
      some_aside_of e = some_numbered v c (row_at p.heads c) is.parking.waits level (λ t lower. row_is c t level lower) marked s less (subst (λ r. IsFirstSlot r marked s) as_row first) (sym as_first ∙ e)

  -- ---- an event comes

  pub accepted : (m : Lists) (e : Event) → level_of e < 4 → total_of l < l.room → length v.waits.waiting < l.room → p.next < 2 ^ 63 → m ≡ with_last l (p.base + level_of e) (record { number = p.next; event = e })
      → IsChanged l p m (record p { next = p.next + 1; count = p.count + 1 }) (with_event v.waits e)
  accepted m e level room less numbers pushed =
      let w : Numbered = record { number = p.next; event = e } in
      let moved : segment m p.base n ≡ with_last (segment l p.base n) (level_of e) w = ap (λ (x : Lists). segment x p.base n) pushed ∙ segment_last l p.base n (level_of e) w (level_list (level_of e) level) is.within in
      let longer = length_push v.waits.waiting w in
      let count = is.count in
      changed m (record p { next = p.next + 1; count = p.count + 1 }) (with_waits v (with_event v.waits e)) refl refl
      (subst (IsBut p.base n l) (sym pushed) (but_one l p.base n (level_of e) (list_at l (p.base + level_of e) ++ w ∷ []) (level_list (level_of e) level) is.within))
      (accepted_held (kept l p) v e (segment m p.base n) holds level moved numbers less)
      (omega arith) (omega arith)

  -- ---- an event is set aside

  module _ (c slot : ℕ) (w : Numbered) (less : c < 4) (head : own_first v c ≡ Some w) (of : slot ≡ slot_of p.slots w) where
    pub level_head : c ≡ level_of w.event
    level_head = level_of_own v c w is.parking.waits less head

    pub slot_head : slot < p.slots
    slot_head = subst (λ k. k < p.slots) (sym of) (slot_within p.slots w some)

    pub number_head : w.number < 2 ^ 63
    number_head = number_fits (kept l p) v w c holds level_head less head

    module _ (a : Lists) (gone : a ≡ without_first l (p.base + c)) where
      pub list_after : (k : ℕ) → k < n → p.base + k < length a.lists
      list_after k lt =
          let within = list_there k lt in
          let same = ap (λ (x : Lists). length x.lists) gone in
          let long = (but_one l p.base n c (drop 1 (list_at l (p.base + c))) (level_list c less) is.within).count in
          omega arith

      -- there is room for it in another list
      pub room_after : Some w ≡ slice_get (list_at l (p.base + c)) 0 → total_of a < a.room
      room_after first =
          let one = total_without l (p.base + c) w (list_there c (level_list c less)) (sym first) in
          let same = ap total_of gone in
          let room : a.room ≡ l.room = ap (λ (y : Lists). y.room) gone in
          let bound = is.room in
          omega arith

      module _ (m : Lists) (k : ℕ) (marks : SmallSet) (row : List ℕ) (list : k ≡ list_of_slot slot c) (come : m ≡ with_last a (p.base + k) w) (has : Has marks slot) (but : SameBut slot (marks_at p.parked c) marks)
          (noted : row ≡ set (row_at p.heads c) slot (number_of (slice_get (list_at m (p.base + k)) 0))) where
        within_now : k < n
        within_now = slot_list c slot k less slot_head list

        held_aside : Holds (kept m (record p { below = set p.below c (w.number + 1); parked = set p.parked c marks; heads = set p.heads c row })) (with_below v c (w.number + 1))
        held_aside =
            let first : IsBut p.base n l a = subst (IsBut p.base n l) (sym gone) (but_one l p.base n c (drop 1 (list_at l (p.base + c))) (level_list c less) is.within) in
            let there : p.base + n ≤ length a.lists = let e = first.count in let i = is.within in omega arith in
            set_aside (kept l p) v w c holds level_head less head (segment a p.base n) (segment m p.base n) slot k marks row (noted_here m c slot k row within_now list noted) of list
            (ap (λ (x : Lists). segment x p.base n) gone ∙ segment_first l p.base n c (level_list c less) is.within)
            (ap (λ (x : Lists). segment x p.base n) come ∙ segment_last a p.base n k w within_now there)
            has but

        pub aside : IsChanged l p m (record p { below = set p.below c (w.number + 1); parked = set p.parked c marks; heads = set p.heads c row }) v.waits
        aside =
            let first : IsBut p.base n l a = subst (IsBut p.base n l) (sym gone) (but_one l p.base n c (drop 1 (list_at l (p.base + c))) (level_list c less) is.within) in
            let there : p.base + n ≤ length a.lists = let e = first.count in let i = is.within in omega arith in
            let then : IsBut p.base n a m = subst (IsBut p.base n a) (sym come) (but_one a p.base n k (list_at a (p.base + k) ++ w ∷ []) within_now there) in
            changed m (record p { below = set p.below c (w.number + 1); parked = set p.parked c marks; heads = set p.heads c row }) (with_below v c (w.number + 1)) refl refl
            (but_then p.base n l a m first then) held_aside is.count still

        pub parted_aside : parted_by m (record p { below = set p.below c (w.number + 1); parked = set p.parked c marks; heads = set p.heads c row }) ≡ with_below v c (w.number + 1)
        parted_aside = view_held (kept m (record p { below = set p.below c (w.number + 1); parked = set p.parked c marks; heads = set p.heads c row })) (with_below v c (w.number + 1)) held_aside

  -- ---- a slot is no longer looked at

  module _ (c slot k : ℕ) (marks : SmallSet) (r : Option Numbered) (level : c < 4) (less : slot < p.slots) (list : k ≡ list_of_slot slot c) (first : r ≡ slice_get (list_at l (p.base + k)) 0) (none : is_some r ≡ false)
      (but : SameBut slot (marks_at p.parked c) marks) (gone : ¬ Has marks slot) where
    held_unmarked : Holds (kept l (record p { parked = set p.parked c marks })) v
    held_unmarked = mark_gone (kept l p) v c slot k holds level less list r marks (first ∙ ap (λ us. slice_get us 0) (sym (segment_at l p.base n k (slot_list c slot k level less list)))) none but gone

    pub unmarked : IsChanged l p l (record p { parked = set p.parked c marks }) v.waits
    unmarked = changed l (record p { parked = set p.parked c marks }) v refl refl (but_none p.base n l) held_unmarked is.count still

  pub unchanged : IsChanged l p l p v.waits
  unchanged = changed l p v refl refl (but_none p.base n l) holds is.count still

  -- ---- an event leaves

  has_some : (i : ℕ) (o : Option Numbered) → has_number i o ≡ true → (w : Numbered) × (o ≡ Some w)
  has_some i None e = absurd (false≢true e)
  has_some i (Some w) e = (w, refl)

  pub headless : (m : Lists) (c slot i : ℕ) → c < 4 → slot < p.slots → IsOnlyOf v.waits c slot i → has_number i (slice_get (list_at l (p.base + c)) 0) ≡ true → m ≡ without_first l (p.base + c)
      → (1 ≤ p.count) × IsChanged l p m (record p { count = p.count - 1 }) (without_number v.waits i)
  headless m c slot i level less only has gone =
      let within = level_list c level in
      let moved : segment m p.base n ≡ without_first (segment l p.base n) c = ap (λ (x : Lists). segment x p.base n) gone ∙ segment_first l p.base n c within is.within in
      let first = ap (λ us. slice_get us 0) (segment_at l p.base n c within) in
      let here : has_number i (slice_get (list_at (segment l p.base n) c) 0) ≡ true = ap (has_number i) first ∙ has in
      let one_is = has_some i (slice_get (list_at (segment l p.base n) c) 0) here in
      let holds_now = head_held (kept l p) v c slot i holds level less only here (segment m p.base n) moved in
      let long = segment_length l p.base n in
      let one = total_without (segment l p.base n) c one_is.0 (omega arith) one_is.1 in
      let same = ap total_of moved in
      let before = total_held (kept l p) v holds in
      let after = total_held (record (kept l p) { lists = segment m p.base n }) (with_waits v (without_number v.waits i)) holds_now in
      let count = is.count in
      let bound = is.room in (
        omega arith,
        changed m (record p { count = p.count - 1 }) (with_waits v (without_number v.waits i)) refl refl
            (subst (IsBut p.base n l) (sym gone) (but_one l p.base n c (drop 1 (list_at l (p.base + c))) within is.within)) holds_now (omega arith)
            (omega arith),
      )

  own_or_slot : (c slot i k : ℕ) → c < 4 → k ≡ list_of_number p.below c slot i → (k < 4) ⊎ (k ≡ list_of_slot slot c)
  own_or_slot c slot i k level list =
      subst (λ j. (j < 4) ⊎ (j ≡ list_of_slot slot c)) (sym list)
      (cond_both (nat_lt i (below_at p.below c)) (list_of_slot slot c) c (λ j. (j < 4) ⊎ (j ≡ list_of_slot slot c)) (λ _. inr refl) (λ _. inl level))

  pub number_list : (c slot i k : ℕ) → c < 4 → slot < p.slots → k ≡ list_of_number p.below c slot i → k < n
  number_list c slot i k level less list = subst (λ j. j < n) (sym list) (list_of_number_within p.below c slot i p.slots level less)

  taken : (m : Lists) (c slot i k j count t : ℕ) (row : List ℕ) → t ≡ list_of_slot slot c → row ≡ set (row_at p.heads c) slot (number_of (slice_get (list_at m (p.base + t)) 0)) → c < 4 → slot < p.slots → IsOnlyOf v.waits c slot i → k ≡ list_of_number p.below c slot i → m ≡ with_list l (p.base + k) (filter (is_other i) (list_at l (p.base + k))) → total_of m + j ≡ total_of l
      → (j ≤ p.count) × (count + j ≡ p.count → IsChanged l p m (record p { count = count; heads = set p.heads c row }) (without_number v.waits i))
  taken m c slot i k j count t row aside noted level less only list gone fewer =
      let within : k < n = number_list c slot i k level less list in
      let moved : segment m p.base n ≡ with_list (segment l p.base n) k (filter (is_other i) (list_at (segment l p.base n) k)) =
      ap (λ (x : Lists). segment x p.base n) gone ∙ (segment_with l p.base n k (filter (is_other i) (list_at l (p.base + k))) within is.within
      ∙ ap (λ us. with_list (segment l p.base n) k (filter (is_other i) us)) (sym (segment_at l p.base n k within))) in
      let xs = filter (is_other i) (list_at (segment l p.base n) k) in
      let here = noted_here m c slot t row (slot_list c slot t level less aside) aside noted in
      let heads : AreHeads (segment m p.base n) p.slots (set p.heads c row) =
      subst (λ x. AreHeads x p.slots (set p.heads c row)) (sym moved)
      (heads_noted (segment l p.base n) p.slots p.heads is.parking.heads c slot k xs row level less (own_or_slot c slot i k level list) (here ∙ ap (λ x. set (row_at p.heads c) slot (number_of (slice_get (list_at x (list_of_slot slot c)) 0))) moved)) in
      let holds_now = taken_held (kept l p) v c slot i k holds level less list only (segment m p.base n) moved (set p.heads c row) heads in
      let but : IsBut p.base n l m = subst (IsBut p.base n l) (sym gone) (but_one l p.base n k (filter (is_other i) (list_at l (p.base + k))) within is.within) in
      let before = total_held (kept l p) v holds in
      let after = total_held (record (kept l p) { lists = segment m p.base n; heads = set p.heads c row }) (with_waits v (without_number v.waits i)) holds_now in
      let both = but.total in
      let bound = is.room in
      let counted = is.count in (
        omega arith,
        λ left. changed m (record p { count = count; heads = set p.heads c row }) (with_waits v (without_number v.waits i)) refl refl but holds_now (omega arith) (omega arith),
      )

  -- the same where the row is read and written
  pub taken_read : (m : Lists) (c slot i k j count t n : ℕ) (d row : List ℕ) → t ≡ list_of_slot slot c → row ≡ set (get_or p.heads c d) slot n → n ≡ number_of (slice_get (list_at m (p.base + t)) 0) → c < 4 → slot < p.slots → IsOnlyOf v.waits c slot i → k ≡ list_of_number p.below c slot i → m ≡ with_list l (p.base + k) (filter (is_other i) (list_at l (p.base + k))) → total_of m + j ≡ total_of l
      → (j ≤ p.count) × (count + j ≡ p.count → IsChanged l p m (record p { count = count; heads = set p.heads c row }) (without_number v.waits i))
  taken_read m c slot i k j count t n d row aside written number level less only list gone fewer =
      taken m c slot i k j count t row aside (noted_row c slot n (number_of (slice_get (list_at m (p.base + t)) 0)) d row level written number) level less only list gone fewer
