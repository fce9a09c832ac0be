-- The first event of a level whose slot is allowed.
use Rattle.std.proofs.Common.{◌≡◌, ◌≢◌, ℕ, ◌+◌, ◌<◌, ◌≤◌, ◌==◌, Bool, true, false, List, [], ◌∷◌, length, set, get_or, Option, Some, None, slice_get, ⊎_elim, refl, sym, ap, ◌∙◌, subst, arith, eq-eqb}
use Rattle.std.proofs.lemmas.Bool.{cases_eq, cases_lt, eqb-false, false≢true}
use Rattle.std.proofs.lemmas.List.{length-drop, get_or-set_same}
use Rattle.std.proofs.lemmas.List.Elements.{All-filter, All-push}
use Rattle.std.specs.Int.{bit_at}
use Rattle.std.specs.Option.{is_some}
use Rattle.std.proofs.lemmas.Option.{slice_get_within}
use Rattle.evt_types.specs.Plan.{level_of}
use Rattle.evt_types.specs.declared.event.Event.{Event}
use Rattle.evt_types.specs.declared.event.Numbered.{Numbered}
use Rattle.small_set.specs.SmallSets.{Has, IsEmpty, SameBut}
use Rattle.small_set.specs.declared.set.SmallSet.{SmallSet}
use Rattle.parked_queue.specs.Merge.{is_in}
use Rattle.parked_queue.specs.Parted.{Parted, HasMarks, HasNoneParked, below_at, list_in, list_of, with_below}
use Rattle.parked_queue.specs.LevelSets.{AreLevels, members}
use Rattle.parked_queue.specs.Waits.{Waits, AreWaits, HasNoneAllowed, HasNoneOf, IsFirstAllowed, is_other, slot_of, with_event, without_number}
use Rattle.parked_queue.specs.declared.level.Levels.{Levels}
use Rattle.parked_queue.proofs.Holding.{list_if_not}
use Rattle.parked_queue.proofs.Parks.{level_of_own, list_after, older}
use Rattle.parked_queue.proofs.Splits.{Split, first_alone, first_least, first_split, first_there, none_first}

-- an event of the level that is not parked is in the level's own list
is_main : (slots : ℕ) (below : List ℕ) (c : ℕ) (u : Numbered) → level_of u.event ≡ c → below_at below c ≤ u.number → is_in (list_of slots below) c u ≡ true
is_main slots below c u here le = eq-eqb (list_of slots below u) c (list_if_not slots below u (subst (λ k. below_at below k ≤ u.number) (sym here) le) ∙ here)

module _ (v : Parted) (c : ℕ) (allowed : SmallSet) (waits : AreWaits v.waits) (lt : c < 4) (none : HasNoneParked v c allowed) where
  abbrev test : Numbered → Bool
  test = is_in (list_of v.waits.slots v.below) c

  -- nothing is left in the level's own list
  pub none_left : slice_get (list_in v c) 0 ≡ None → HasNoneAllowed v.waits c allowed
  none_left e k d h =
      let u : Numbered = get_or v.waits.waiting k d in
      λ here may. ⊎_elim
      (λ lower. none k d h here lower may)
      (λ le. false≢true (sym (none_first test v.waits.waiting e k d h) ∙ is_main v.waits.slots v.below c u here le))
      (cases_lt u.number (below_at v.below c))

  module _ (w : Numbered) (head : slice_get (list_in v c) 0 ≡ Some w) where
    main : Split test v.waits.waiting w
    main = first_split test v.waits.waiting w waits.rising head

    level_of_head : c ≡ level_of w.event
    level_of_head = level_of_own v c w waits lt head

    -- the first one of the level's own list is allowed
    pub main_first : Has allowed (slot_of v.waits.slots w) → IsFirstAllowed v.waits c allowed w
    main_first may =
        record {
          waits = first_there test v.waits.waiting w main;
          level = sym level_of_head;
          slot = may;
          first =
              λ k d h. (λ here has. ⊎_elim
              (λ lower. absurd (none k d h here lower has))
              (λ le. first_least test v.waits.waiting w main k d h (is_main v.waits.slots v.below c (get_or v.waits.waiting k d) here le))
              (cases_lt (get_or v.waits.waiting k d).number (below_at v.below c)));
        }

    -- it is not, and set aside
    pub still_none : length v.below ≡ 4 → ¬ Has allowed (slot_of v.waits.slots w) → HasNoneParked (with_below v c (w.number + 1)) c allowed
    still_none four bars k d h =
        let u : Numbered = get_or v.waits.waiting k d in
        let grown : below_at (set v.below c (w.number + 1)) c ≡ w.number + 1 = get_or-set_same v.below c (w.number + 1) 0 (omega arith) in
        λ here lower may. ⊎_elim
        (λ less. none k d h here (older v w c waits level_of_head lt four head k d h here less) may)
        (λ le. let same : u.number ≡ w.number = omega arith in bars (subst (λ (x : Numbered). Has allowed (slot_of v.waits.slots x)) (first_alone test v.waits.waiting w main k d h same) may))
        (cases_lt u.number w.number)

    pub fewer_left : length v.below ≡ 4 → length (list_in (with_below v c (w.number + 1)) c) < length (list_in v c)
    fewer_left four =
        let less = ap length (list_after v w c waits level_of_head lt four head) in
        let some = slice_get_within (list_in v c) 0 w head in
        let count = length-drop 1 (list_in v c) in
        omega arith

-- ---- levels of which nothing waits

pub none_is : {X : Type 0} (o : Option X) → is_some o ≡ false → o ≡ None
none_is None e = λ i. None
none_is (Some w) e = absurd (false≢true (sym e))

-- the level's own list is empty, and none of its slots is marked
pub none_of_level : (v : Parted) (c : ℕ) (marks : SmallSet) → HasMarks v c marks → IsEmpty marks → slice_get (list_in v c) 0 ≡ None → HasNoneOf v.waits c
none_of_level v c marks has empty e k d h =
    let u : Numbered = get_or v.waits.waiting k d in
    λ here. ⊎_elim
    (λ lower. empty (slot_of v.waits.slots u) (has.marked k d h here lower))
    (λ le. false≢true (sym (none_first (is_in (list_of v.waits.slots v.below) c) v.waits.waiting e k d h) ∙ is_main v.waits.slots v.below c u here le))
    (cases_lt u.number (below_at v.below c))

pub not_empty : (xs ys : List Numbered) → xs ≡ ys → (length xs == 0) ≡ false → 0 < length ys
not_empty xs ys same none = let differ = eqb-false (length xs) 0 none in let e = ap length same in omega (arith, differ, e)

first_of : (xs : List Numbered) → 0 < length xs → (w : Numbered) × (slice_get xs 0 ≡ Some w)
first_of [] some = absurd (omega arith)
first_of (x ∷ xs) some = (x, refl)

-- the level's own list has an event, which waits
pub some_of_level : (v : Parted) (c : ℕ) → AreWaits v.waits → c < 4 → 0 < length (list_in v c) → ¬ HasNoneOf v.waits c
some_of_level v c waits lt some none =
    let first = first_of (list_in v c) some in
    let w : Numbered = first.0 in
    let test = is_in (list_of v.waits.slots v.below) c in
    let here = first_there test v.waits.waiting w (first_split test v.waits.waiting w waits.rising first.1) in
    none here.0 w here.1 (ap (λ (u : Numbered). level_of u.event) here.2 ∙ sym (level_of_own v c w waits lt first.1))

-- a level of which an event waits is known
level_known : (v : Waits) (c : ℕ) (levels : Levels) → AreLevels v levels → ¬ HasNoneOf v c → Has (members levels) c
level_known v c levels are some = ⊎_elim (λ has. has) (λ never. absurd (some (are.rest c never))) (cases_eq (bit_at (members levels).bits c) 1)

-- of an empty queue no event of any level waits
pub none_of_empty : (v : Waits) (c : ℕ) → v.waiting ≡ [] → HasNoneOf v c
none_of_empty v c empty k d h = let e = ap length empty in absurd (omega (arith, h, e))

-- the level of an event that comes is added
pub levels_with : (v : Waits) (e : Event) (was now : Levels) → Has (members now) (level_of e) → SameBut (level_of e) (members was) (members now) → AreLevels v was → AreLevels (with_event v e) now
levels_with v e was now here others are =
    record {
      rest = λ k never.
          let ne : k ≢ level_of e = λ same. never (subst (Has (members now)) (sym same) here) in
          All-push (λ (u : Numbered). level_of u.event ≢ k) v.waiting (record { number = v.next; event = e }) (are.rest k (λ has. never ((others k ne).1 has))) (λ same. ne (sym same));
    }

-- where an event of its level waits, an event that comes adds no level
pub levels_still : (v : Waits) (e : Event) (levels : Levels) → ¬ HasNoneOf v (level_of e) → AreLevels v levels → AreLevels (with_event v e) levels
levels_still v e levels some are = levels_with v e levels levels (level_known v (level_of e) levels are some) (λ i ne. (λ has. has, λ has. has)) are

-- an event that goes leaves no other level
pub levels_without : (v : Waits) (n : ℕ) (levels : Levels) → AreLevels v levels → AreLevels (without_number v n) levels
levels_without v n levels are = record { rest = λ k never. All-filter (is_other n) (λ (u : Numbered). level_of u.event ≢ k) v.waiting (are.rest k never) }
