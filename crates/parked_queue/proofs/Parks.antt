-- An event is set aside.
use Rattle.std.proofs.Common.{◌≡◌, ◌≢◌, ℕ, ◌+◌, ◌<◌, ◌≤◌, ◌^◌, true, false, cond, nat_lt, List, [], ◌∷◌, ◌++◌, length, drop, set, get_or, All, Option, Some, slice_get, ◌⊎◌, ⊎_elim, inl, inr, sym, ap, ◌∙◌, subst, arith, eq-eqb}
use Rattle.std.proofs.lemmas.Bool.{cases_eq, cases_lt, false≢true}
use Rattle.std.proofs.lemmas.List.{length-set, get_or-set_same, get_or-set_other}
use Rattle.std.proofs.lemmas.List.Elements.{All-contains, All-tail}
use Rattle.lists.proofs.Lists.{All-back, eqb_is, eqb_other}
use Rattle.evt_types.specs.Plan.{level_of}
use Rattle.evt_types.specs.declared.event.Numbered.{Numbered}
use Rattle.small_set.specs.SmallSets.{Has, SameBut}
use Rattle.small_set.specs.declared.set.SmallSet.{SmallSet}
use Rattle.parked_queue.specs.Heads.{AreHeads, number_of, row_at}
use Rattle.parked_queue.specs.Lists.{Lists, list_at, total_of, with_last, without_first}
use Rattle.parked_queue.specs.Marks.{Kept, AreMarks, marks_at}
use Rattle.parked_queue.specs.Merge.{is_in, in_list, lists_of}
use Rattle.parked_queue.specs.Parted.{Parted, below_at, list_in, own_first, list_of_slot, list_of, list_count, with_below}
use Rattle.parked_queue.specs.Waits.{AreWaits, slot_of}
use Rattle.parked_queue.proofs.Accepting.{total_held}
use Rattle.parked_queue.proofs.Noting.{heads_noted, heads_own}
use Rattle.parked_queue.proofs.Totals.{total_without}
use Rattle.parked_queue.proofs.Holding.{Holds, count_held, list_held, list_if_not, list_if_parked, slot_within}
use Rattle.parked_queue.proofs.Splits.{Split, first_alone, first_least, first_split, first_there, left, lists_moved}

-- where it says of an event in a level's own list
pub in_main : (slots : ℕ) (below : List ℕ) (c : ℕ) (u : Numbered) → c < 4 → level_of u.event < 4 → is_in (list_of slots below) c u ≡ true → (level_of u.event ≡ c) × (below_at below c ≤ u.number)
in_main slots below c u lt level e =
    let same : list_of slots below u ≡ c = eqb_is (list_of slots below u) c e in
    ⊎_elim
    (λ parked. let p = list_if_parked slots below u parked in absurd (omega arith))
    (λ not_parked. let p : list_of slots below u ≡ level_of u.event = list_if_not slots below u not_parked in let here : level_of u.event ≡ c = sym p ∙ same in (here, subst (λ k. below_at below k ≤ u.number) here not_parked))
    (cases_lt u.number (below_at below (level_of u.event)))

-- the first event of a level's own list is of the level
pub level_of_own : (v : Parted) (c : ℕ) (w : Numbered) → AreWaits v.waits → c < 4 → own_first v c ≡ Some w → c ≡ level_of w.event
level_of_own v c w waits lt head =
    let main : Split (is_in (list_of v.waits.slots v.below) c) v.waits.waiting w = first_split (is_in (list_of v.waits.slots v.below) c) v.waits.waiting w waits.rising head in
    sym (in_main v.waits.slots v.below c w lt (All-contains (λ (u : Numbered). level_of u.event < 4) v.waits.waiting w waits.levels (first_there (is_in (list_of v.waits.slots v.below) c) v.waits.waiting w main)) main.is.here).0

module _ (v : Parted) (w : Numbered) (c : ℕ) (waits : AreWaits v.waits) (level : c ≡ level_of w.event) (lt : c < 4) (four : length v.below ≡ 4) (head : slice_get (list_in v c) 0 ≡ Some w) where
  abbrev pub grown : List ℕ
  grown = set v.below c (w.number + 1)

  abbrev was : Numbered → ℕ
  was = list_of v.waits.slots v.below

  abbrev becomes : Numbered → ℕ
  becomes = list_of v.waits.slots grown

  pub split : Split (is_in was c) v.waits.waiting w
  split = first_split (is_in was c) v.waits.waiting w waits.rising head

  -- the number below which the level's events were parked
  not_parked : below_at v.below c ≤ w.number
  not_parked = (in_main v.waits.slots v.below c w lt (omega arith) split.is.here).1

  grown_here : below_at grown c ≡ w.number + 1
  grown_here = get_or-set_same v.below c (w.number + 1) 0 (omega arith)

  grown_other : (k : ℕ) → k ≢ c → below_at grown k ≡ below_at v.below k
  grown_other k differs = get_or-set_other v.below c k (w.number + 1) 0 differs

  abbrev there : ℕ
  there = list_of_slot (slot_of v.waits.slots w) c

  comes : becomes w ≡ list_of_slot (slot_of v.waits.slots w) c
  comes = list_if_parked v.waits.slots grown w (let e = grown_here in subst (λ k. w.number < below_at grown k) level (omega arith)) ∙ ap (λ k. list_of_slot (slot_of v.waits.slots w) k) (sym level)

  leaves : was w ≡ c
  leaves = eqb_is (was w) c split.is.here

  same_list : (u : Numbered) → (level_of u.event ≡ c → (u.number < below_at v.below c) ⊎ (w.number < u.number)) → becomes u ≡ was u
  same_list u h =
      ⊎_elim
      (λ here. ⊎_elim
      (λ lower. let e = grown_here in let le = not_parked in list_if_parked v.waits.slots grown u (subst (λ k. u.number < below_at grown k) (sym here) (omega arith)) ∙ sym (list_if_parked v.waits.slots v.below u (subst (λ k. u.number < below_at v.below k) (sym here) lower)))
      (λ higher. let e = grown_here in let le = not_parked in list_if_not v.waits.slots grown u (subst (λ k. below_at grown k ≤ u.number) (sym here) (omega arith)) ∙ sym (list_if_not v.waits.slots v.below u (subst (λ k. below_at v.below k ≤ u.number) (sym here) (omega arith))))
      (h here))
      (λ elsewhere. ap (λ n. cond (nat_lt u.number n) (list_of_slot (slot_of v.waits.slots u) (level_of u.event)) (level_of u.event)) (grown_other (level_of u.event) elsewhere))
      (cases_eq (level_of u.event) c)

  -- an event of the level that is not parked is in the level's own list
  stands : (u : Numbered) → level_of u.event ≡ c → below_at v.below c ≤ u.number → is_in was c u ≡ true
  stands u here le = eq-eqb (was u) c (list_if_not v.waits.slots v.below u (subst (λ k. below_at v.below k ≤ u.number) (sym here) le) ∙ here)

  as_before : All (λ (u : Numbered). becomes u ≡ was u) split.before
  as_before k d h =
      let u : Numbered = get_or split.before k d in
      same_list u (λ here. ⊎_elim (λ lower. inl lower) (λ le. absurd (false≢true (sym (split.is.none k d h) ∙ stands u here le))) (cases_lt u.number (below_at v.below c)))

  as_behind : All (λ (u : Numbered). becomes u ≡ was u) split.behind
  as_behind k d h = same_list (get_or split.behind k d) (λ here. inr (split.is.higher k d h))

  levels_behind : All (λ (u : Numbered). level_of u.event < 4) split.behind
  levels_behind =
      All-tail (λ (u : Numbered). level_of u.event < 4) w split.behind
      (All-back (λ (u : Numbered). level_of u.event < 4) split.before (w ∷ split.behind) (subst (All (λ (u : Numbered). level_of u.event < 4)) split.is.whole waits.levels))

  none_behind : All (λ (u : Numbered). is_in was there u ≡ false) split.behind
  none_behind k d h = eqb_other (was (get_or split.behind k d)) there (differs (get_or split.behind k d) (levels_behind k d h) (split.is.higher k d h))
    where
      differs : (u : Numbered) → level_of u.event < 4 → w.number < u.number → was u ≢ there
      differs u less higher e =
          let le = not_parked in
          ⊎_elim
          (λ parked.
          let p = list_if_parked v.waits.slots v.below u parked in
          let here : level_of u.event ≡ c = omega arith in
          let lower : u.number < below_at v.below c = subst (λ k. u.number < below_at v.below k) here parked in
          omega arith)
          (λ main. let p = list_if_not v.waits.slots v.below u main in omega arith)
          (cases_lt u.number (below_at v.below (level_of u.event)))

  apart : there ≢ c
  apart e = omega arith

  pub lists_after : (n : ℕ) → c < n → there < n → lists_of becomes 0 n v.waits.waiting ≡ set (set (lists_of was 0 n v.waits.waiting) c (drop 1 (list_in v c))) there (list_in v there ++ w ∷ [])
  lists_after n less few =
      subst (λ ws. lists_of becomes 0 n ws ≡ set (set (lists_of was 0 n ws) c (drop 1 (in_list was c ws))) there (in_list was there ws ++ w ∷ [])) (sym split.is.whole)
      (lists_moved was becomes split.before w split.behind c there leaves comes apart as_before as_behind split.is.none none_behind n less few)

  -- the level's own list has one event less
  pub list_after : list_in (with_below v c (w.number + 1)) c ≡ drop 1 (list_in v c)
  list_after =
      subst (λ ws. in_list becomes c ws ≡ drop 1 (in_list was c ws)) (sym split.is.whole)
      (left was becomes split.before w split.behind c there leaves comes apart as_before as_behind split.is.none none_behind)

  -- ---- the marks

  -- the level's older events are parked already
  pub older : All (λ (u : Numbered). level_of u.event ≡ c → u.number < w.number → u.number < below_at v.below c) v.waits.waiting
  older k d h =
      let u : Numbered = get_or v.waits.waiting k d in
      λ here lower. ⊎_elim (λ lt. lt) (λ le. let least : w.number ≤ u.number = first_least (is_in was c) v.waits.waiting w split k d h (stands u here le) in absurd (omega arith)) (cases_lt u.number (below_at v.below c))

  module _ (ps : List SmallSet) (p : SmallSet) (marks : AreMarks v ps) (five : length ps ≡ 4) (has : Has p (slot_of v.waits.slots w)) (but : SameBut (slot_of v.waits.slots w) (marks_at ps c) p) where
    marks_here : marks_at (set ps c p) c ≡ p
    marks_here = get_or-set_same ps c p (record { bits = 0 }) (omega arith)

    marks_other : (k : ℕ) → k ≢ c → marks_at (set ps c p) k ≡ marks_at ps k
    marks_other k differs = get_or-set_other ps c k p (record { bits = 0 }) differs

    marked_here : (u : Numbered) → level_of u.event ≡ c → u.number < w.number + 1 → (u.number ≡ w.number → u ≡ w) → (u.number < w.number → u.number < below_at v.below c) → (u.number < below_at v.below c → Has (marks_at ps c) (slot_of v.waits.slots u)) → Has p (slot_of v.waits.slots u)
    marked_here u here lower alone before old =
        ⊎_elim
        (λ same. subst (λ k. Has p k) (sym same) has)
        (λ other. (but (slot_of v.waits.slots u) other).1 (old (before (⊎_elim (λ lt. lt) (λ le. absurd (other (ap (slot_of v.waits.slots) (alone (omega arith))))) (cases_lt u.number w.number)))))
        (cases_eq (slot_of v.waits.slots u) (slot_of v.waits.slots w))

    marked_after : (u : Numbered) → (u.number ≡ w.number → u ≡ w) → (level_of u.event ≡ c → u.number < w.number → u.number < below_at v.below c) → (u.number < below_at v.below (level_of u.event) → Has (marks_at ps (level_of u.event)) (slot_of v.waits.slots u))
        → u.number < below_at grown (level_of u.event) → Has (marks_at (set ps c p) (level_of u.event)) (slot_of v.waits.slots u)
    marked_after u alone before old parked =
        ⊎_elim
        (λ here.
        let g = grown_here in
        let now : u.number < below_at grown c = subst (λ k. u.number < below_at grown k) here parked in
        subst (λ k. Has (marks_at (set ps c p) k) (slot_of v.waits.slots u)) (sym here) (subst (λ q. Has q (slot_of v.waits.slots u)) (sym marks_here)
        (marked_here u here (omega arith) alone (before here) (subst (λ k. u.number < below_at v.below k → Has (marks_at ps k) (slot_of v.waits.slots u)) here old))))
        (λ elsewhere. subst (λ q. Has q (slot_of v.waits.slots u)) (sym (marks_other (level_of u.event) elsewhere)) (old (let g = grown_other (level_of u.event) elsewhere in omega arith)))
        (cases_eq (level_of u.event) c)

    there_after : (k slot : ℕ) → Has (marks_at (set ps c p) k) slot → slot < v.waits.slots
    there_after k slot h =
        ⊎_elim
        (λ same. ⊎_elim
        (λ this. subst (λ n. n < v.waits.slots) (sym this) (slot_within v.waits.slots w waits.some))
        (λ other. marks.there c slot ((but slot other).0 (subst (λ q. Has q slot) (ap (marks_at (set ps c p)) same ∙ marks_here) h)))
        (cases_eq slot (slot_of v.waits.slots w)))
        (λ differs. marks.there k slot (subst (λ q. Has q slot) (marks_other k differs) h))
        (cases_eq k c)

    pub marks_after : AreMarks (with_below v c (w.number + 1)) (set ps c p)
    marks_after =
        record {
          marked = λ k d h. marked_after (get_or v.waits.waiting k d) (first_alone (is_in was c) v.waits.waiting w split k d h) (older k d h) (marks.marked k d h);
          there = there_after;
        }

-- ---- the value

module _ (a : Kept) (v : Parted) (w : Numbered) (c : ℕ) (h : Holds a v) (level : c ≡ level_of w.event) (lt : c < 4) (head : slice_get (list_in v c) 0 ≡ Some w) where
  abbrev aside : ℕ
  aside = list_of_slot (slot_of v.waits.slots w) c

  pub aside_within : aside < list_count v.waits.slots
  aside_within = let slot = slot_within v.waits.slots w h.waits.some in omega arith

  pub main_within : c < list_count v.waits.slots
  main_within = let some = h.waits.some in omega arith

  pub lists_parked : (l : Lists) → l ≡ with_last (without_first a.lists c) aside w → l.lists ≡ lists_of (list_of v.waits.slots (set v.below c (w.number + 1))) 0 (list_count v.waits.slots) v.waits.waiting
  lists_parked l is =
      ap (λ (x : Lists). x.lists) is
      ∙ (ap (λ us. set (set a.lists.lists c (drop 1 us)) aside (get_or (set a.lists.lists c (drop 1 us)) aside [] ++ w ∷ [])) (list_held a v c h main_within)
      ∙ (ap (λ us. set (set a.lists.lists c (drop 1 (list_in v c))) aside (us ++ w ∷ [])) (get_or-set_other a.lists.lists c aside (drop 1 (list_in v c)) [] (λ e. omega arith) ∙ list_held a v aside h aside_within)
      ∙ (ap (λ ls. set (set ls c (drop 1 (list_in v c))) aside (list_in v aside ++ w ∷ [])) h.lists
      ∙ sym (lists_after v w c h.waits level lt h.four head (list_count v.waits.slots) main_within aside_within))))

  bounds_after : (k : ℕ) → below_at (set v.below c (w.number + 1)) k ≤ v.waits.next
  bounds_after k =
      ⊎_elim
      (λ same.
      let e : below_at (set v.below c (w.number + 1)) k ≡ w.number + 1 = ap (below_at (set v.below c (w.number + 1))) same ∙ grown_here v w c h.waits level lt h.four head in
      let less : w.number < v.waits.next = All-contains (λ (u : Numbered). u.number < v.waits.next) v.waits.waiting w h.waits.below (first_there (is_in (list_of v.waits.slots v.below) c) v.waits.waiting w (split v w c h.waits level lt h.four head)) in
      omega arith)
      (λ differs. let e = grown_other v w c h.waits level lt h.four head k differs in let b = h.bounds k in omega arith)
      (cases_eq k c)

  pub parked_held : (l : Lists) (p : SmallSet) (rows : List (List ℕ)) → AreHeads l a.slots rows → l ≡ with_last (without_first a.lists c) aside w → Has p (slot_of v.waits.slots w) → SameBut (slot_of v.waits.slots w) (marks_at a.parked c) p
      → Holds (record a { lists = l; below = set a.below c (w.number + 1); parked = set a.parked c p; heads = rows }) (with_below v c (w.number + 1))
  parked_held l p rows heads is has but =
      record {
        waits = h.waits;
        lists = lists_parked l is;
        room = ap (λ (x : Lists). x.room) is ∙ h.room;
        slots = h.slots;
        mask = h.mask;
        next = h.next;
        below = ap (λ bs. set bs c (w.number + 1)) h.below;
        bounds = bounds_after;
        four = length-set v.below c (w.number + 1) ∙ h.four;
        levels = length-set a.parked c p ∙ h.levels;
        marks = marks_after v w c h.waits level lt h.four head a.parked p h.marks h.levels has but;
        heads = heads;
      }

  -- ---- the calls, one after the other

  pub main_there : c < length a.lists.lists
  main_there = let some = h.waits.some in omega (arith, count_held a v h)

  pub aside_there : (l : Lists) (s k : ℕ) → s ≡ slot_of v.waits.slots w → k ≡ list_of_slot s c → l ≡ without_first a.lists c → k < length l.lists
  aside_there l s k slot list is =
      let same = ap (λ (x : Lists). length x.lists) is in
      let kept = length-set a.lists.lists c (drop 1 (list_at a.lists c)) in
      let count = count_held a v h in
      let within = aside_within in
      omega arith

  pub room_there : (l : Lists) → l ≡ without_first a.lists c → total_of l < l.room
  room_there l is =
      let less = total_without a.lists c w main_there (ap (λ us. slice_get us 0) (list_held a v c h main_within) ∙ head) in
      let total = total_held a v h in
      let within = h.waits.within in
      let room : l.room ≡ v.waits.room = ap (λ (x : Lists). x.room) is ∙ h.room in
      let same = ap total_of is in
      omega arith

  pub number_fits : w.number < 2 ^ 63
  number_fits =
      let less : w.number < v.waits.next = All-contains (λ (u : Numbered). u.number < v.waits.next) v.waits.waiting w h.waits.below (first_there (is_in (list_of v.waits.slots v.below) c) v.waits.waiting w (split v w c h.waits level lt h.four head)) in
      let fits = h.waits.fits in
      omega arith

  pub set_aside : (l m : Lists) (s k : ℕ) (p : SmallSet) (row : List ℕ) → row ≡ set (row_at a.heads c) s (number_of (slice_get (list_at m (list_of_slot s c)) 0)) → s ≡ slot_of v.waits.slots w → k ≡ list_of_slot s c → l ≡ without_first a.lists c → m ≡ with_last l k w → Has p s → SameBut s (marks_at a.parked c) p
      → Holds (record a { lists = m; below = set a.below c (w.number + 1); parked = set a.parked c p; heads = set a.heads c row }) (with_below v c (w.number + 1))
  set_aside l m s k p row noted slot list gone come has but =
      let within : s < a.slots = let same = h.slots in let less = slot_within v.waits.slots w h.waits.some in omega arith in
      let first : AreHeads l a.slots a.heads = subst (λ (x : Lists). AreHeads x a.slots a.heads) (sym gone) (heads_own a.lists a.slots a.heads h.heads c (drop 1 (list_at a.lists c)) lt) in
      parked_held m p (set a.heads c row)
      (subst (λ (x : Lists). AreHeads x a.slots (set a.heads c row)) (sym come)
      (heads_noted l a.slots a.heads first c s k (list_at l k ++ w ∷ []) row lt within (inr list) (noted ∙ ap (λ (x : Lists). set (row_at a.heads c) s (number_of (slice_get (list_at x (list_of_slot s c)) 0))) come)))
      (come ∙ (ap (λ x. with_last x k w) gone ∙ ap (λ n. with_last (without_first a.lists c) n w) (list ∙ ap (λ n. list_of_slot n c) slot)))
      (subst (Has p) slot has)
      (subst (λ n. SameBut n (marks_at a.parked c) p) slot but)

-- ---- what the pop has given

module _ (a : Kept) (v : Parted) (c : ℕ) (h : Holds a v) (lt : c < 4) where
  pub popped : (o : Option Numbered) → o ≡ slice_get (list_at a.lists c) 0 → own_first v c ≡ o
  popped o e = let some = h.waits.some in sym (e ∙ ap (λ us. slice_get us 0) (list_held a v c h (omega arith)))
