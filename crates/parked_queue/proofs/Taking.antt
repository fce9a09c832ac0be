-- One event less.
use Rattle.std.proofs.Common.{◌≡◌, ℕ, ◌<◌, ◌≤◌, List, length, drop, filter, set, get_or, nat_lt, All, [], ◌∷◌, true, slice_get, eqb-true, sym, ap, ◌∙◌, subst, arith}
use Rattle.std.proofs.lemmas.Bool.{cond_both, false≢true}
use Rattle.std.proofs.lemmas.List.Elements.{All-filter, All-head, filter_passes}
use Rattle.std.proofs.lemmas.List.Kept.{AllPairs-filter}
use Rattle.std.proofs.lemmas.List.Sums.{length-filter, count_by-le-length}
use Rattle.evt_types.specs.Plan.{level_of}
use Rattle.evt_types.specs.declared.event.Numbered.{Numbered}
use Rattle.small_set.specs.SmallSets.{Has}
use Rattle.parked_queue.specs.Heads.{AreHeads}
use Rattle.parked_queue.specs.Lists.{Lists, has_number, list_at, with_list, without_first}
use Rattle.parked_queue.specs.Marks.{Kept, marks_at}
use Rattle.parked_queue.specs.Merge.{is_in, lists_of}
use Rattle.parked_queue.specs.Parted.{Parted, below_at, list_in, own_first, list_of_slot, list_of_number, list_of, list_count, with_waits}
use Rattle.parked_queue.specs.Waits.{Waits, AreWaits, IsOnlyOf, IsRising, is_other, slot_of, without_number}
use Rattle.parked_queue.proofs.Holding.{Holds, count_held, list_held}
use Rattle.parked_queue.proofs.Noting.{heads_own}
use Rattle.parked_queue.proofs.Merges.{lists_without}
use Rattle.parked_queue.proofs.Without.{first_out}

pub waits_without : (q : Waits) (n : ℕ) → AreWaits q → AreWaits (without_number q n)
waits_without q n waits =
    let fewer : length (filter (is_other n) q.waiting) ≤ length q.waiting = subst (λ m. m ≤ length q.waiting) (sym (length-filter (is_other n) q.waiting)) (count_by-le-length (is_other n) q.waiting) in
    let room = waits.within in
    record {
      rising = AllPairs-filter (λ (u w : Numbered). u.number < w.number) (is_other n) q.waiting waits.rising;
      below = All-filter (is_other n) (λ (w : Numbered). w.number < q.next) q.waiting waits.below;
      levels = All-filter (is_other n) (λ (w : Numbered). level_of w.event < 4) q.waiting waits.levels;
      fits = waits.fits;
      within = omega arith;
      some = waits.some;
      few = waits.few;
    }

pub list_of_number_within : (below : List ℕ) (c slot n slots : ℕ) → c < 4 → slot < slots → list_of_number below c slot n < list_count slots
list_of_number_within below c slot n slots lt less = cond_both (nat_lt n (below_at below c)) (list_of_slot slot c) c (λ k. k < list_count slots) (λ _. omega arith) (λ _. omega arith)

-- where the event of the number is
only_there : (v : Parted) (c slot n : ℕ) → IsOnlyOf v.waits c slot n → All (λ (w : Numbered). w.number ≡ n → list_of v.waits.slots v.below w ≡ list_of_number v.below c slot n) v.waits.waiting
only_there v c slot n only k d h =
    let w : Numbered = get_or v.waits.waiting k d in
    λ same.
    let of = only k d h same in
    ap (λ m. list_of_number v.below (level_of w.event) (slot_of v.waits.slots w) m) same ∙ (ap (λ m. list_of_number v.below m (slot_of v.waits.slots w) n) of.0 ∙ ap (λ m. list_of_number v.below c m n) of.1)

-- what each event of the number shows, where the first one has it
numbered_first : (R : Type 0) (n : ℕ) (ws : List Numbered) → has_number n (slice_get ws 0) ≡ true → All (λ (w : Numbered). w.number ≡ n → R) ws → R
numbered_first R n [] has all = absurd (false≢true has)
numbered_first R n (w ∷ ws) has all = All-head (λ (u : Numbered). u.number ≡ n → R) w ws all (eqb-true w.number n has)

-- where the first event of the level's own list has the number, the event of the number is in that list
own_list : (v : Parted) (c slot n : ℕ) → IsOnlyOf v.waits c slot n → has_number n (own_first v c) ≡ true → c ≡ list_of_number v.below c slot n
own_list v c slot n only has =
    let g : Numbered → ℕ = list_of v.waits.slots v.below in
    numbered_first (c ≡ list_of_number v.below c slot n) n (list_in v c) has
    (λ k d h same.
    sym (eqb-true (g (get_or (list_in v c) k d)) c (filter_passes (is_in g c) v.waits.waiting k d h))
    ∙ All-filter (is_in g c) (λ (w : Numbered). w.number ≡ n → g w ≡ list_of_number v.below c slot n) v.waits.waiting (only_there v c slot n only) k d h same)

module _ (a : Kept) (v : Parted) (c slot n k : ℕ) (h : Holds a v) (lt : c < 4) (less : slot < v.waits.slots) (list : k ≡ list_of_number v.below c slot n) where
  within : k < list_count v.waits.slots
  within = subst (λ m. m < list_count v.waits.slots) (sym list) (list_of_number_within v.below c slot n v.waits.slots lt less)

  pub list_there : k < length a.lists.lists
  list_there = subst (λ m. k < m) (sym (count_held a v h)) within

  pub list_rises : IsRising (list_at a.lists k)
  list_rises = subst IsRising (sym (list_held a v k h within)) (AllPairs-filter (λ (u w : Numbered). u.number < w.number) (is_in (list_of v.waits.slots v.below) k) v.waits.waiting h.waits.rising)

  module _ (only : IsOnlyOf v.waits c slot n) (l : Lists) (is : l ≡ with_list a.lists k (filter (is_other n) (list_at a.lists k))) where
    lists_taken : l.lists ≡ lists_of (list_of v.waits.slots v.below) 0 (list_count v.waits.slots) (filter (is_other n) v.waits.waiting)
    lists_taken =
        ap (λ (x : Lists). x.lists) is
        ∙ (ap (λ us. set a.lists.lists k (filter (is_other n) us)) (list_held a v k h within)
        ∙ (ap (λ ls. set ls k (filter (is_other n) (list_in v k))) h.lists
        ∙ sym (lists_without (list_of v.waits.slots v.below) (list_count v.waits.slots) v.waits.waiting n k within
        (subst (λ m. All (λ (w : Numbered). w.number ≡ n → list_of v.waits.slots v.below w ≡ m) v.waits.waiting) (sym list) (only_there v c slot n only)))))

    pub taken_held : (rows : List (List ℕ)) → AreHeads l a.slots rows → Holds (record a { lists = l; heads = rows }) (with_waits v (without_number v.waits n))
    taken_held rows heads =
        record {
          waits = waits_without v.waits n h.waits;
          lists = lists_taken;
          room = ap (λ (x : Lists). x.room) is ∙ h.room;
          slots = h.slots;
          mask = h.mask;
          next = h.next;
          below = h.below;
          bounds = h.bounds;
          four = h.four;
          levels = h.levels;
          marks =
              record {
                marked = All-filter (is_other n) (λ (u : Numbered). u.number < below_at v.below (level_of u.event) → Has (marks_at a.parked (level_of u.event)) (slot_of v.waits.slots u)) v.waits.waiting h.marks.marked;
                there = h.marks.there;
              };
          heads = heads;
        }

-- the event has left at the head of the level's own list
pub head_held : (a : Kept) (v : Parted) (c slot n : ℕ) → Holds a v → c < 4 → slot < v.waits.slots → IsOnlyOf v.waits c slot n → has_number n (slice_get (list_at a.lists c) 0) ≡ true → (l : Lists) → l ≡ without_first a.lists c
    → Holds (record a { lists = l }) (with_waits v (without_number v.waits n))
head_held a v c slot n h lt less only has l is =
    let first : has_number n (own_first v c) ≡ true = subst (λ us. has_number n (slice_get us 0) ≡ true) (list_held a v c h (omega arith)) has in
    let list = own_list v c slot n only first in
    taken_held a v c slot n c h lt less list only l (is ∙ ap (with_list a.lists c) (first_out n (list_at a.lists c) (list_rises a v c slot n c h lt less list) has)) a.heads
    (subst (λ (m : Lists). AreHeads m a.slots a.heads) (sym is) (heads_own a.lists a.slots a.heads h.heads c (drop 1 (list_at a.lists c)) lt))
