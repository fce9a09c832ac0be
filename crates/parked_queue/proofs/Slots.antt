-- The first event of the slots that are marked.
use Rattle.std.proofs.Common.{ℕ, get_or, ⊎_elim, arith}
use Rattle.std.specs.Prelude.{◌↔◌}
use Rattle.std.proofs.lemmas.Bool.{cases_lt}
use Rattle.evt_types.specs.declared.event.Numbered.{Numbered}
use Rattle.small_set.specs.SmallSets.{Has, IsEmpty}
use Rattle.small_set.specs.declared.set.SmallSet.{SmallSet}
use Rattle.parked_queue.specs.Parted.{Parted, HasMarks, HasNoneParked, IsFirstParked, below_at}
use Rattle.parked_queue.specs.Waits.{IsFirstAllowed, slot_of}

-- the oldest parked event of the slots that are marked and allowed
module _ (v : Parted) (c : ℕ) (marks allowed marked : SmallSet) (has : HasMarks v c marks) (both : (i : ℕ) → Has marked i ↔ (Has marks i × Has allowed i)) where
  pub parked_first : (w : Numbered) → IsFirstParked v c marked w → IsFirstAllowed v.waits c allowed w
  parked_first w p =
      record {
        waits = p.one.waits;
        level = p.one.level;
        slot = ((both (slot_of v.waits.slots w)).0 p.one.slot).1;
        first =
            λ k d h. (λ here may. ⊎_elim
            (λ lower. p.first k d h here lower ((both (slot_of v.waits.slots (get_or v.waits.waiting k d))).1 (has.marked k d h here lower, may)))
            (λ le. let less = p.one.parked in omega arith)
            (cases_lt (get_or v.waits.waiting k d).number (below_at v.below c)));
      }

  pub none_parked : HasNoneParked v c marked → HasNoneParked v c allowed
  none_parked none k d h here lower may = none k d h here lower ((both (slot_of v.waits.slots (get_or v.waits.waiting k d))).1 (has.marked k d h here lower, may))

  -- no mark is allowed
  pub none_marked : IsEmpty marked → HasNoneParked v c allowed
  none_marked empty = none_parked (λ k d h here lower may. empty (slot_of v.waits.slots (get_or v.waits.waiting k d)) may)
