-- The oldest parked event of a level whose slot is allowed.
use Rattle.std.proofs.Common.{◌≡◌, ◌≢◌, ℕ, ◌<◌, ◌≤◌, Bool, true, false, List, set, get_or, All, Option, Some, None, slice_get, ⊎_elim, refl, sym, ap, ◌∙◌, subst, arith, eq-eqb}
use Rattle.std.specs.Prelude.{Contains}
use Rattle.std.proofs.lemmas.Bool.{cases_eq, cases_lt, false≢true}
use Rattle.std.proofs.lemmas.List.{length-set, get_or-set_same, get_or-set_other}
use Rattle.std.proofs.lemmas.List.Elements.{All-contains}
use Rattle.lists.proofs.Lists.{eqb_is}
use Rattle.evt_types.specs.Plan.{level_of}
use Rattle.evt_types.specs.declared.event.Numbered.{Numbered}
use Rattle.small_set.specs.SmallSets.{Has, SameBut}
use Rattle.small_set.specs.declared.set.SmallSet.{SmallSet}
use Rattle.parked_queue.specs.Heads.{HasNoHead, IsFirstSlot, number_at, number_of}
use Rattle.parked_queue.specs.Marks.{Kept, marks_at}
use Rattle.parked_queue.specs.Merge.{is_in}
use Rattle.parked_queue.specs.Parted.{Parted, HasMarks, HasNoneParked, IsFirstParked, IsParkedAllowed, below_at, list_in, list_of_slot, list_of}
use Rattle.parked_queue.specs.Waits.{AreWaits, slot_of}
use Rattle.std.specs.Option.{is_some}
use Rattle.parked_queue.specs.Lists.{list_at}
use Rattle.parked_queue.proofs.Holding.{Holds, list_held, list_if_not, list_if_parked, slot_within}
use Rattle.parked_queue.proofs.Splits.{Split, first_least, first_split, first_there, none_first}

-- what it says of an event to be in the list of a slot's parked events
in_aside : (slots : ℕ) (below : List ℕ) (c s : ℕ) (u : Numbered) → c < 4 → level_of u.event < 4 → is_in (list_of slots below) (list_of_slot s c) u ≡ true → (level_of u.event ≡ c) × (slot_of slots u ≡ s) × (u.number < below_at below c)
in_aside slots below c s u lt level e =
    let same : list_of slots below u ≡ list_of_slot s c = eqb_is (list_of slots below u) (list_of_slot s c) e in
    ⊎_elim
    (λ parked. let p = list_if_parked slots below u parked in let here : level_of u.event ≡ c = omega arith in (here, omega arith, subst (λ k. u.number < below_at below k) here parked))
    (λ main. let p = list_if_not slots below u main in absurd (omega arith))
    (cases_lt u.number (below_at below (level_of u.event)))

-- a parked event is in the list of its slot
is_aside : (slots : ℕ) (below : List ℕ) (c s : ℕ) (u : Numbered) → level_of u.event ≡ c → slot_of slots u ≡ s → u.number < below_at below c → is_in (list_of slots below) (list_of_slot s c) u ≡ true
is_aside slots below c s u here slot lower =
    eq-eqb (list_of slots below u) (list_of_slot s c)
    (list_if_parked slots below u (subst (λ k. u.number < below_at below k) (sym here) lower) ∙ (ap (λ k. list_of_slot k (level_of u.event)) slot ∙ ap (list_of_slot s) here))

module _ (v : Parted) (c s : ℕ) (waits : AreWaits v.waits) (lt : c < 4) where
  abbrev test : Numbered → Bool
  test = is_in (list_of v.waits.slots v.below) (list_of_slot s c)

  -- nothing is parked there
  none_aside : slice_get (list_in v (list_of_slot s c)) 0 ≡ None → All (λ (u : Numbered). level_of u.event ≡ c → u.number < below_at v.below c → slot_of v.waits.slots u ≢ s) v.waits.waiting
  none_aside e k d h =
      let u : Numbered = get_or v.waits.waiting k d in
      λ here lower slot. false≢true (sym (none_first test v.waits.waiting e k d h) ∙ is_aside v.waits.slots v.below c s u here slot lower)

  module _ (w : Numbered) (head : slice_get (list_in v (list_of_slot s c)) 0 ≡ Some w) where
    aside : Split test v.waits.waiting w
    aside = first_split test v.waits.waiting w waits.rising head

    of_head : (level_of w.event ≡ c) × (slot_of v.waits.slots w ≡ s) × (w.number < below_at v.below c)
    of_head = in_aside v.waits.slots v.below c s w lt (All-contains (λ (u : Numbered). level_of u.event < 4) v.waits.waiting w waits.levels (first_there test v.waits.waiting w aside)) aside.is.here

    head_waits : Contains v.waits.waiting w
    head_waits = first_there test v.waits.waiting w aside

    pub slot_of_head : s ≡ slot_of v.waits.slots w
    slot_of_head = sym of_head.1

    head_there : (allowed : SmallSet) → Has allowed s → IsParkedAllowed v c allowed w
    head_there allowed has = record { waits = head_waits; level = of_head.0; slot = subst (Has allowed) (sym of_head.1) has; parked = of_head.2 }

    head_least : All (λ (u : Numbered). level_of u.event ≡ c → u.number < below_at v.below c → slot_of v.waits.slots u ≡ s → w.number ≤ u.number) v.waits.waiting
    head_least k d h =
        let u : Numbered = get_or v.waits.waiting k d in
        λ here lower slot. first_least test v.waits.waiting w aside k d h (is_aside v.waits.slots v.below c s u here slot lower)

-- ---- the slot whose first event has the lowest number

module _ (v : Parted) (c : ℕ) (row : List ℕ) (waits : AreWaits v.waits) (lt : c < 4) (are : (s : ℕ) → s < v.waits.slots → number_at row s ≡ number_of (slice_get (list_in v (list_of_slot s c)) 0)) where
  -- the number of a slot is no later than its parked events
  row_least : All (λ (u : Numbered). level_of u.event ≡ c → u.number < below_at v.below c → number_at row (slot_of v.waits.slots u) ≤ u.number) v.waits.waiting
  row_least k d h =
      let u : Numbered = get_or v.waits.waiting k d in
      let s : ℕ = slot_of v.waits.slots u in
      λ here lower. by (slice_get (list_in v (list_of_slot s c)) 0) refl here lower (are s (slot_within v.waits.slots u waits.some))
    where
      by : (o : Option Numbered) → slice_get (list_in v (list_of_slot (slot_of v.waits.slots (get_or v.waits.waiting k d)) c)) 0 ≡ o → level_of (get_or v.waits.waiting k d).event ≡ c → (get_or v.waits.waiting k d).number < below_at v.below c
          → number_at row (slot_of v.waits.slots (get_or v.waits.waiting k d)) ≡ number_of (slice_get (list_in v (list_of_slot (slot_of v.waits.slots (get_or v.waits.waiting k d)) c)) 0)
          → number_at row (slot_of v.waits.slots (get_or v.waits.waiting k d)) ≤ (get_or v.waits.waiting k d).number
      by None e here lower same = absurd (none_aside v c (slot_of v.waits.slots (get_or v.waits.waiting k d)) waits lt e k d h here lower refl)
      by (Some w) e here lower same =
          let number = same ∙ ap number_of e in
          let least = head_least v c (slot_of v.waits.slots (get_or v.waits.waiting k d)) waits lt w e k d h here lower refl in
          omega arith

  module _ (marked : SmallSet) where
    pub first_numbered : (s : ℕ) → s < v.waits.slots → IsFirstSlot row marked s → (w : Numbered) → slice_get (list_in v (list_of_slot s c)) 0 ≡ Some w → IsFirstParked v c marked w
    first_numbered s less is w e =
        let number = are s less ∙ ap number_of e in
        record {
          one = head_there v c s waits lt w e marked is.there;
          first =
              λ k d h.
              let u : Numbered = get_or v.waits.waiting k d in
              λ here lower may.
              let first = is.first (slot_of v.waits.slots u) may in
              let least = row_least k d h here lower in
              omega arith;
        }

    -- it has an event
    pub some_numbered : (s : ℕ) → s < v.waits.slots → IsFirstSlot row marked s → slice_get (list_in v (list_of_slot s c)) 0 ≢ None
    some_numbered s less is e = let number = are s less ∙ ap number_of e in let some = is.some in omega arith

    pub none_numbered : HasNoHead row marked → HasNoneParked v c marked
    none_numbered none k d h =
        let u : Numbered = get_or v.waits.waiting k d in
        λ here lower may.
        let least = row_least k d h here lower in
        let high = none (slot_of v.waits.slots u) may in
        let below = waits.below k d h in
        let fits = waits.fits in
        omega arith

-- ---- a mark goes

module _ (a : Kept) (v : Parted) (c s : ℕ) (p : SmallSet) (h : Holds a v) (lt : c < 4) (none : slice_get (list_in v (list_of_slot s c)) 0 ≡ None) (but : SameBut s (marks_at a.parked c) p) (gone : ¬ Has p s) where
  here_after : marks_at (set a.parked c p) c ≡ p
  here_after = let four = h.levels in get_or-set_same a.parked c p (record { bits = 0 }) (omega arith)

  other_after : (k : ℕ) → k ≢ c → marks_at (set a.parked c p) k ≡ marks_at a.parked k
  other_after k differs = get_or-set_other a.parked c k p (record { bits = 0 }) differs

  marked_after : (u : Numbered) → (level_of u.event ≡ c → u.number < below_at v.below c → slot_of v.waits.slots u ≢ s) → (u.number < below_at v.below (level_of u.event) → Has (marks_at a.parked (level_of u.event)) (slot_of v.waits.slots u))
      → u.number < below_at v.below (level_of u.event) → Has (marks_at (set a.parked c p) (level_of u.event)) (slot_of v.waits.slots u)
  marked_after u apart old parked =
      ⊎_elim
      (λ here. subst (λ q. Has q (slot_of v.waits.slots u)) (sym (ap (marks_at (set a.parked c p)) here ∙ here_after))
      ((but (slot_of v.waits.slots u) (apart here (subst (λ k. u.number < below_at v.below k) here parked))).1 (subst (λ k. Has (marks_at a.parked k) (slot_of v.waits.slots u)) here (old parked))))
      (λ elsewhere. subst (λ q. Has q (slot_of v.waits.slots u)) (sym (other_after (level_of u.event) elsewhere)) (old parked))
      (cases_eq (level_of u.event) c)

  there_after : (k slot : ℕ) → Has (marks_at (set a.parked c p) k) slot → slot < v.waits.slots
  there_after k slot has =
      ⊎_elim
      (λ same.
      let now : Has p slot = subst (λ q. Has q slot) (ap (marks_at (set a.parked c p)) same ∙ here_after) has in
      h.marks.there c slot ((but slot (λ e. gone (subst (Has p) e now))).0 now))
      (λ differs. h.marks.there k slot (subst (λ q. Has q slot) (other_after k differs) has))
      (cases_eq k c)

  pub unmarked_held : Holds (record a { parked = set a.parked c p }) v
  unmarked_held =
      record {
        waits = h.waits;
        lists = h.lists;
        room = h.room;
        slots = h.slots;
        mask = h.mask;
        next = h.next;
        below = h.below;
        bounds = h.bounds;
        four = h.four;
        levels = length-set a.parked c p ∙ h.levels;
        marks = record { marked = λ k d l. marked_after (get_or v.waits.waiting k d) (none_aside v c s h.waits lt none k d l) (h.marks.marked k d l); there = there_after };
        heads = h.heads;
      }

-- ---- what stands first in the list of a slot's parked events

none_if : (o : Option Numbered) → is_some o ≡ false → o ≡ None
none_if None e = refl
none_if (Some w) e = cc

module _ (a : Kept) (v : Parted) (c s k : ℕ) (h : Holds a v) (lt : c < 4) (less : s < v.waits.slots) (list : k ≡ list_of_slot s c) where
  pub first_aside : (r : Option Numbered) → r ≡ slice_get (list_at a.lists k) 0 → r ≡ slice_get (list_in v (list_of_slot s c)) 0
  first_aside r e = e ∙ (ap (λ n. slice_get (list_at a.lists n) 0) list ∙ ap (λ us. slice_get us 0) (list_held a v (list_of_slot s c) h (omega arith)))

  pub mark_gone : (r : Option Numbered) (p : SmallSet) → r ≡ slice_get (list_at a.lists k) 0 → is_some r ≡ false → SameBut s (marks_at a.parked c) p → ¬ Has p s → Holds (record a { parked = set a.parked c p }) v
  mark_gone r p e none but gone = unmarked_held a v c s p h lt (sym (first_aside r e) ∙ none_if r none) but gone

pub marks_held : (a : Kept) (v : Parted) (c : ℕ) → Holds a v → HasMarks v c (marks_at a.parked c)
marks_held a v c h =
    record {
      marked =
          λ k d l.
          let u : Numbered = get_or v.waits.waiting k d in
          λ here lower. subst (λ n. Has (marks_at a.parked n) (slot_of v.waits.slots u)) here (h.marks.marked k d l (subst (λ n. u.number < below_at v.below n) (sym here) lower));
      there = h.marks.there c;
    }
