-- How many replies to all lanes pass a test, where one more is submitted.
use Rattle.std.proofs.Common.{◌≡◌, ◌≢◌, ℕ, ◌+◌, ◌<◌, get_or, Bool, cond, List, [], ◌∷◌, ◌++◌, sym, ap, ◌∙◌, arith, count_by}
use Rattle.std.specs.List.{range_with_len}
use Rattle.std.proofs.lemmas.List.Sums.{sum_by-append}
use Rattle.lists.proofs.Sums.{sum_same, sum_changed, sum_of_none}
use Rattle.evt_types.specs.declared.event.Reply.{Reply}
use Rattle.lists.specs.Counts.{count}
use Rattle.event_ports.specs.declared.lane.Lane.{Lane}
use Rattle.event_ports.specs.declared.lane.Lane.TheVariants.{Own, Flow}
use Rattle.event_ports.specs.Lanes.{counted}
use Rattle.event_ports.proofs.Orders.{own_flow, flow_is}

-- the lane is there
abbrev pub IsThere : ℕ → Lane → Type 0
IsThere n Own = Unit {0}
IsThere n (Flow j) = j < n

pub count_more : (P : Reply → Bool) (xs ys : List Reply) (r : Reply) → ys ≡ xs ++ r ∷ [] → count_by P ys ≡ count_by P xs + count (P r)
count_more P xs ys r e = omega (arith, ap (count_by P) e, sum_by-append (λ (x : Reply). cond (P x) 1 0) xs (r ∷ []))

pub counts_one : (P : Reply → Bool) (n m : ℕ) (before after : Lane → List Reply) (lane : Lane) (r : Reply) → m ≡ n → IsThere n lane → after lane ≡ before lane ++ r ∷ []
    → ((l : Lane) → l ≢ lane → after l ≡ before l) → counted P m after ≡ counted P n before + count (P r)
counts_one P n m before after Own r e there here others =
    ap (λ k. counted P k after) e ∙
    omega (
      arith,
      count_more P (before Own) (after Own) r here,
      sum_same (λ j. count_by P (after (Flow j))) (λ j. count_by P (before (Flow j))) n (λ j. ap (count_by P) (others (Flow j) (own_flow j))),
    )
counts_one P n m before after (Flow i) r e there here others =
    ap (λ k. counted P k after) e ∙
    omega (
      arith,
      ap (count_by P) (others Own (λ e. own_flow i (sym e))),
      sum_changed (λ j. count_by P (after (Flow j))) (λ j. count_by P (before (Flow j))) n i 0 (count (P r)) there (omega (arith, count_more P (before (Flow i)) (after (Flow i)) r here))
          (λ j ne. ap (count_by P) (others (Flow j) (λ e. ne (flow_is j i e)))),
    )

pub counts_none : (P : Reply → Bool) (n m : ℕ) (before after : Lane → List Reply) → m ≡ n → ((l : Lane) → after l ≡ before l) → counted P m after ≡ counted P n before
counts_none P n m before after e same =
    ap (λ k. counted P k after) e ∙
    omega (
      arith,
      ap (count_by P) (same Own),
      sum_same (λ j. count_by P (after (Flow j))) (λ j. count_by P (before (Flow j))) n (λ j. ap (count_by P) (same (Flow j))),
    )

-- nothing was submitted to any lane
pub counts_zero : (P : Reply → Bool) (n : ℕ) (said : Lane → List Reply) → ((l : Lane) → said l ≡ []) → counted P n said ≡ 0
counts_zero P n said none =
    let here : count_by P (said Own) ≡ 0 = ap (count_by P) (none Own) in
    omega (arith, here, sum_of_none (λ j. count_by P (said (Flow j))) (range_with_len 0 n) (λ k d lt. ap (count_by P) (none (Flow (get_or (range_with_len 0 n) k d)))))
