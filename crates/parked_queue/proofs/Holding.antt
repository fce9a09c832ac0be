-- When the fields hold a value: then it is their view, and their invariant holds.
use Rattle.std.proofs.Common.{◌≡◌, ℕ, zero, suc, ◌<◌, ◌≤◌, List, [], ◌∷◌, length, get_or, replicate, refl, sym, ap, ◌∙◌, subst, arith, ⊎_elim}
use Rattle.std.proofs.lemmas.Bool.{cases_Bool, cond-true, cond-false, ltb-true, lt-ltb, ltb-false}
use Rattle.std.proofs.lemmas.List.{get_or-replicate, length-replicate}
use Rattle.lists.proofs.Ranges.{mapped_at}
use Rattle.std.proofs.lemmas.List.FromFn.{fill_by_all, length-map-range_with_len}
use Rattle.evt_types.specs.Plan.{level_of}
use Rattle.evt_types.specs.declared.event.Numbered.{Numbered}
use Rattle.small_set.specs.SmallSets.{Has}
use Rattle.small_set.specs.declared.set.SmallSet.{SmallSet}
use Rattle.parked_queue.specs.Heads.{AreHeads}
use Rattle.parked_queue.specs.Lists.{Lists, list_at}
use Rattle.parked_queue.specs.Marks.{Kept, AreMarks, IsParking, marks_at, mask_of, parted_in}
use Rattle.parked_queue.specs.Merge.{by_number, in_list, lists_of}
use Rattle.parked_queue.specs.Parted.{Parted, below_at, is_parked, list_in, no_parted, list_of_slot, list_of, list_count}
use Rattle.parked_queue.specs.Waits.{AreWaits, slot_of}
use Rattle.parked_queue.proofs.Merges.{merges_back}

-- the fields hold the value
pub record Holds (a : Kept) (v : Parted) : Type 0 where
  pub waits : AreWaits v.waits
  pub lists : a.lists.lists ≡ lists_of (list_of v.waits.slots v.below) 0 (list_count v.waits.slots) v.waits.waiting
  pub room : a.lists.room ≡ v.waits.room
  pub slots : a.slots ≡ v.waits.slots
  pub mask : a.mask ≡ mask_of a.slots
  pub next : a.next ≡ v.waits.next
  pub below : a.below ≡ v.below
  pub bounds : (c : ℕ) → below_at v.below c ≤ v.waits.next
  pub four : length v.below ≡ 4
  pub levels : length a.parked ≡ 4
  pub marks : AreMarks v a.parked
  pub heads : AreHeads a.lists a.slots a.heads

-- ---- each event is in one of the lists

pub slot_within : (n : ℕ) (w : Numbered) → 0 < n → slot_of n w < n
slot_within n w some = omega arith

pub list_if_parked : (slots : ℕ) (below : List ℕ) (w : Numbered) → w.number < below_at below (level_of w.event) → list_of slots below w ≡ list_of_slot (slot_of slots w) (level_of w.event)
list_if_parked slots below w lt = cond-true (is_parked below w) (list_of_slot (slot_of slots w) (level_of w.event)) (level_of w.event) (lt-ltb w.number (below_at below (level_of w.event)) lt)

pub list_if_not : (slots : ℕ) (below : List ℕ) (w : Numbered) → below_at below (level_of w.event) ≤ w.number → list_of slots below w ≡ level_of w.event
list_if_not slots below w le =
    ⊎_elim
    (λ t. let lt = ltb-true w.number (below_at below (level_of w.event)) t in absurd (omega arith))
    (λ f. cond-false (is_parked below w) (list_of_slot (slot_of slots w) (level_of w.event)) (level_of w.event) f)
    (cases_Bool (is_parked below w))

pub list_within : (slots : ℕ) (below : List ℕ) (w : Numbered) → 0 < slots → level_of w.event < 4 → list_of slots below w < list_count slots
list_within slots below w some level =
    let slot = slot_within slots w some in
    ⊎_elim
    (λ t. let e = list_if_parked slots below w (ltb-true w.number (below_at below (level_of w.event)) t) in omega arith)
    (λ f. let e = list_if_not slots below w (ltb-false w.number (below_at below (level_of w.event)) f) in omega arith)
    (cases_Bool (is_parked below w))

-- ---- the value

module _ (v : Parted) (waits : AreWaits v.waits) where
  pub back : by_number (lists_of (list_of v.waits.slots v.below) 0 (list_count v.waits.slots) v.waits.waiting) ≡ v.waits.waiting
  back = merges_back (list_of v.waits.slots v.below) (list_count v.waits.slots) v.waits.waiting waits.rising (λ k d h. list_within v.waits.slots v.below (get_or v.waits.waiting k d) waits.some (waits.levels k d h))

same_parts : (ws us : List Numbered) (n m r s t u : ℕ) (b c : List ℕ) → ws ≡ us → n ≡ m → r ≡ s → t ≡ u → b ≡ c
    → ◌≡◌ {A = Parted} (record { waits = record { waiting = ws; next = n; room = r; slots = t }; below = b }) (record { waits = record { waiting = us; next = m; room = s; slots = u }; below = c })
same_parts ws us n m r s t u b c e f g h i = cc

pub view_held : (a : Kept) (v : Parted) → Holds a v → parted_in a ≡ v
view_held a v h = same_parts _ v.waits.waiting _ v.waits.next _ v.waits.room _ v.waits.slots _ v.below (ap by_number h.lists ∙ back v h.waits) h.next h.room h.slots h.below

pub holds_held : (a : Kept) (v : Parted) → Holds a v → IsParking a
holds_held a v h =
    let same : parted_in a ≡ v = view_held a v h in
    let waiting : by_number a.lists.lists ≡ v.waits.waiting = ap (λ (x : Parted). x.waits.waiting) same in
    record {
      waits = subst (λ (x : Parted). AreWaits x.waits) (sym same) h.waits;
      lists = h.lists ∙ sym (ap (λ (x : Parted). lists_of (list_of x.waits.slots x.below) 0 (list_count x.waits.slots) x.waits.waiting) same);
      mask = h.mask;
      bounds = λ c. subst (λ (x : Parted). below_at x.below c ≤ x.waits.next) (sym same) (h.bounds c);
      four = ap length h.below ∙ h.four;
      levels = h.levels;
      marks = subst (λ (x : Parted). AreMarks x a.parked) (sym same) h.marks;
      heads = h.heads;
    }

pub held : (a : Kept) (v : Parted) → IsParking a → parted_in a ≡ v → Holds a v
held a v is same = subst (Holds a) same (record {
  waits = is.waits;
  lists = is.lists;
  room = refl;
  slots = refl;
  mask = is.mask;
  next = refl;
  below = refl;
  bounds = is.bounds;
  four = is.four;
  levels = is.levels;
  marks = is.marks;
  heads = is.heads;
})

-- ---- the lists

-- what stands in a list
pub list_held : (a : Kept) (v : Parted) (k : ℕ) → Holds a v → k < list_count v.waits.slots → list_at a.lists k ≡ list_in v k
list_held a v k h lt = ap (λ ls. get_or ls k []) h.lists ∙ mapped_at (λ d. in_list (list_of v.waits.slots v.below) d v.waits.waiting) (list_count v.waits.slots) k [] lt

-- how many lists there are
pub count_held : (a : Kept) (v : Parted) → Holds a v → length a.lists.lists ≡ list_count v.waits.slots
count_held a v h = ap length h.lists ∙ length-map-range_with_len (λ d. in_list (list_of v.waits.slots v.below) d v.waits.waiting) 0 (list_count v.waits.slots)

-- ---- nothing waits

no_bounds : (c : ℕ) → below_at (0 ∷ 0 ∷ 0 ∷ 0 ∷ []) c ≡ 0
no_bounds zero = refl
no_bounds (suc zero) = refl
no_bounds (suc (suc zero)) = refl
no_bounds (suc (suc (suc zero))) = refl
no_bounds (suc (suc (suc (suc c)))) = refl

no_marks : (p : SmallSet) (c slot : ℕ) → ((k : ℕ) → ¬ Has p k) → ((k : ℕ) → ¬ Has (record { bits = 0 }) k) → ¬ Has (marks_at (p ∷ p ∷ p ∷ p ∷ []) c) slot
no_marks p zero slot none zeros = none slot
no_marks p (suc zero) slot none zeros = none slot
no_marks p (suc (suc zero)) slot none zeros = none slot
no_marks p (suc (suc (suc zero))) slot none zeros = none slot
no_marks p (suc (suc (suc (suc c)))) slot none zeros = zeros slot

pub nothing_held : (l : Lists) (slots room m : ℕ) (p : SmallSet) (rows : List (List ℕ)) → AreHeads l slots rows → 0 < slots → slots ≤ 64 → m ≡ mask_of slots → l ≡ record { room = room; lists = replicate (list_count slots) [] } → ((k : ℕ) → ¬ Has p k) → ((k : ℕ) → ¬ Has (record { bits = 0 }) k)
    → Holds (record { lists = l; slots = slots; mask = m; below = 0 ∷ 0 ∷ 0 ∷ 0 ∷ []; parked = p ∷ p ∷ p ∷ p ∷ []; heads = rows; next = 0 }) (no_parted slots room)
nothing_held l slots room m p rows heads some few mask is none zeros =
    record {
      waits = record { rising = λ i j d lt within. absurd (omega arith); below = λ k d h. absurd (omega arith); levels = λ k d h. absurd (omega arith); fits = omega arith; within = omega arith; some = some; few = few };
      lists = ap (λ (x : Lists). x.lists) is ∙ fill_by_all (λ k. []) (replicate (list_count slots) []) (list_count slots) [] (length-replicate (list_count slots) []) (λ k h. get_or-replicate (list_count slots) k [] [] h);
      room = ap (λ (x : Lists). x.room) is;
      slots = refl;
      mask = mask;
      next = refl;
      below = refl;
      bounds = λ c. let e = no_bounds c in omega arith;
      four = refl;
      levels = refl;
      marks = record { marked = λ k d h. absurd (omega arith); there = λ c slot has. absurd (no_marks p c slot none zeros has) };
      heads = heads;
    }
