-- The lanes that have room, as events come and go.
use Rattle.std.proofs.Common.{◌≡◌, ◌≢◌, ℕ, ◌<◌, ◌≤◌, List, [], length, set, get_or, drop, ◌⊎◌, inl, inr, sym, ap, ◌∙◌, subst, arith}
use Rattle.std.specs.Prelude.{◌↔◌}
use Rattle.std.proofs.lemmas.Bool.{cases_eq}
use Rattle.std.proofs.lemmas.List.{get_or_default, get_or-set_same, get_or-set_other, length-drop, length-set}
use Rattle.evt_types.proofs.FlowLanes.{depth_within}
use Rattle.evt_types.specs.Fault.{IsWithinLimits}
use Rattle.evt_types.specs.Plan.{Plan, lanes_of, depth_of}
use Rattle.order_parts.specs.History.{Entries, entries_of}
use Rattle.small_set.specs.SmallSets.{Has, SameBut}
use Rattle.small_set.specs.declared.set.SmallSet.{SmallSet}
use Rattle.order_parts.specs.Histories.{AreRoomy, HasRoom, lane_in, AreEmptyLanes}

-- where nothing is unanswered, each lane has room
pub all_roomy : (p : Plan) (ls : List Entries) (all : SmallSet) → IsWithinLimits p → AreEmptyLanes p (lanes_of p) ls → ((l : ℕ) → Has all l ↔ (l < 64)) → AreRoomy ls all
all_roomy p ls all limits empty below l h few =
    let capacity : (lane_in ls l).capacity ≡ depth_of p l = empty.room l (entries_of [] 0) h in
    let none : length (lane_in ls l).entries ≡ 0 = ap length (empty.empty l (entries_of [] 0) h) in
    let count = empty.count in
    let some = (depth_within p l limits (omega (arith, h, count))).0 in
    (λ has. omega (arith, capacity, none, some), λ room. (below l).1 few)

-- a lane is changed, and its place alone
pub roomy_set : (ls : List Entries) (i : ℕ) (new : Entries) (was now : SmallSet) → i < length ls → SameBut i was now → (i < 64 → Has now i ↔ (length new.entries < new.capacity)) → AreRoomy ls was → AreRoomy (set ls i new) now
roomy_set ls i new was now here others mine roomy k h few = by_case (cases_eq k i)
  where
    by_case : (k ≡ i) ⊎ (k ≢ i) → Has now k ↔ HasRoom (set ls i new) k
    by_case (inl e) =
        subst (λ (l : Entries). Has now k ↔ (length l.entries < l.capacity)) (sym (ap (λ n. get_or (set ls i new) n (entries_of [] 0)) e ∙ get_or-set_same ls i new (entries_of [] 0) here))
        (subst (λ n. Has now n ↔ (length new.entries < new.capacity)) (sym e) (mine (subst (λ n. n < 64) e few)))
    by_case (inr differs) =
        let same = roomy k (subst (λ n. k < n) (length-set ls i new) h) few in
        subst (λ (l : Entries). Has now k ↔ (length l.entries < l.capacity)) (sym (get_or-set_other ls i k new (entries_of [] 0) differs))
        (λ has. same.0 ((others k differs).0 has), λ room. (others k differs).1 (same.1 room))

-- where one event leaves, there is room
pub one_left : (old new : Entries) → length old.entries ≤ old.capacity → 0 < length old.entries → new ≡ entries_of (drop 1 old.entries) old.capacity → length new.entries < new.capacity
one_left old new within some is =
    let left = length-drop 1 old.entries in
    let held : length new.entries ≡ length (drop 1 old.entries) = ap (λ (l : Entries). length l.entries) is in
    let capacity : new.capacity ≡ old.capacity = ap (λ (l : Entries). l.capacity) is in
    omega (arith, left, held, capacity, within, some)

-- the same where some leave
pub some_left : (old new : Entries) (n : ℕ) → length old.entries ≤ old.capacity → 0 < n → n ≤ length old.entries → new ≡ entries_of (drop n old.entries) old.capacity → length new.entries < new.capacity
some_left old new n within some held is =
    let left = length-drop n old.entries in
    let now : length new.entries ≡ length (drop n old.entries) = ap (λ (l : Entries). length l.entries) is in
    let capacity : new.capacity ≡ old.capacity = ap (λ (l : Entries). l.capacity) is in
    omega (arith, left, now, capacity, within, some, held)

-- the history of a lane
pub lane_is : (ls : List Entries) (l : ℕ) → l < length ls → lane_in ls l ≡ get_or ls l (lane_in ls l)
lane_is ls l h = get_or_default ls l (entries_of [] 0) (lane_in ls l) h
