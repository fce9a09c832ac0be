-- What holds of a history that isn't refused, and what is answered where no breach of the other kinds was found.
use Rattle.std.specs.Prelude.{ℕ, ◌≡◌, IfNone, IfSome, List, length, Option, Some, None}
use Rattle.std.proofs.Common.{sym, subst}
use Rattle.std.specs.Option.{IsSomeAnd, MatchOption}
use Rattle.std.specs.declared.alloc.Global.{Global}
use Rattle.std.specs.declared.vec.Vec.{Vec}
use Rattle.evt_types.specs.Fault.{IsWithinLimits}
use Rattle.evt_types.specs.Plan.{Plan}
use Rattle.history_judge.specs.Breaches.{IsAnswer, IsBreach, IsCrowded, IsOverfull, IsOvertaken, IsReordered, IsTogether, IsUnlinked}
use Rattle.history_judge.specs.Entries.{IsRefused}
use Rattle.history_judge.specs.Holds.{AreTimes}
use Rattle.history_judge.specs.Values.{IsExcess, IsPremature}
use Rattle.history_judge.specs.Watching.{IsFit}
use Rattle.history_judge.specs.declared.breach.Breach.{Breach}
use Rattle.history_judge.specs.declared.breach.Breach.TheVariants.{Unlinked, Together, Unsent, Early, Overtaken, Reordered, Overfull, Crowded}
use Rattle.history_judge.specs.declared.fault.HistoryFault.{HistoryFault}
use Rattle.history_judge.specs.declared.fault.HistoryFault.TheVariants as faults
use Rattle.history_judge.specs.declared.seen.Seen.{Seen}

pub fit : (p : Plan) (hs : List Seen) (times : List (Vec ℕ Global)) → IsWithinLimits p → ((f : HistoryFault) → ¬ IsRefused p hs f) → ((i : ℕ) → ¬ IsUnlinked p hs i) → AreTimes (length p.ports) hs times → IsFit p hs times
fit p hs times within judged linked noted =
    record {
      within = within;
      known = λ i. judged (faults.Port i);
      ordered = λ i. judged (faults.Order i);
      sorted = λ i. judged (faults.Unsorted i);
      linked = linked;
      noted = noted;
    }

-- events of two ports that are held together, or no breach at all
pub answered : (p : Plan) (hs : List Seen) (found : Option (ℕ × ℕ)) (r : Option Breach) → ((i : ℕ) → ¬ IsUnlinked p hs i) → ((i : ℕ) → ¬ IsExcess hs i) → ((i : ℕ) → ¬ IsPremature hs i)
    → ((i j : ℕ) → ¬ IsOvertaken p hs i j) → ((i j : ℕ) → ¬ IsReordered p hs i j) → ((i : ℕ) → ¬ IsOverfull p hs i)
    → ((i : ℕ) → ¬ IsCrowded p hs i)
    → IfSome found (λ x. IsTogether p hs x.0 x.1) → IfNone found ((i j : ℕ) → ¬ IsTogether p hs i j)
    → (Post : ℕ × ℕ → Breach → Type 0) → ((x : ℕ × ℕ) (b : Breach) → Post x b → b ≡ Together x.0 x.1) → MatchOption found (r ≡ None) (λ x. IsSomeAnd r (Post x)) → IsAnswer p hs r
answered p hs None r linked sent timely kept forwarded fits roomy held apart Post tells is = subst (IsAnswer p hs) (sym is) none
  where
    none : (b : Breach) → ¬ IsBreach p hs b
    none (Unlinked i) bad = linked i bad
    none (Together i j) bad = apart i j bad
    none (Unsent i) bad = sent i bad.excess
    none (Early i) bad = timely i bad.premature
    none (Overtaken i j) bad = kept i j bad
    none (Reordered i j) bad = forwarded i j bad
    none (Overfull i) bad = fits i bad
    none (Crowded i) bad = roomy i bad
answered p hs (Some x) (Some b) linked sent timely kept forwarded fits roomy held apart Post tells is = subst (IsBreach p hs) (sym (tells x b is)) held
answered p hs (Some x) None linked sent timely kept forwarded fits roomy held apart Post tells is = absurd is
