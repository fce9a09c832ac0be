-- How many events of a level there are, row by row: a row has the lists of the four levels, those of the queue or of a slot.
use Rattle.std.proofs.Common.{◌≡◌, ◌≢◌, ℕ, zero, suc, ◌+◌, ◌-◌, ◌*◌, ◌<◌, ◌≤◌, Bool, true, false, cond, ◌==◌, List, [], ◌∷◌, length, filter, get_or, count_by, All, ⊎_elim, refl, sym, ap, ◌∙◌, arith, eq-eqb}
use Rattle.std.proofs.lemmas.Bool.{cases_lt, false≢true, ne_eqb}
use Rattle.std.proofs.lemmas.List.Elements.{All-head, All-tail}
use Rattle.std.proofs.lemmas.List.Sums.{count_by-le-length, sum_by-append, sum_by-cons}
use Rattle.lists.proofs.Lists.{eqb_is}
use Rattle.evt_types.specs.Plan.{level_of}
use Rattle.evt_types.specs.declared.event.Numbered.{Numbered}
use Rattle.parked_queue.specs.Merge.{is_in}
use Rattle.parked_queue.specs.Parted.{Parted, below_at, list_in, list_of, list_count}
use Rattle.parked_queue.specs.Parts.{parts_of}
use Rattle.parked_queue.specs.Waits.{AreWaits}
use Rattle.parked_queue.proofs.Deliveries.{all_sum, parts_fit, parts_more}
use Rattle.parked_queue.proofs.Holding.{list_if_not, list_if_parked}

abbrev is_at : ℕ → Numbered → Bool
is_at c w = level_of w.event == c

-- an event in a row's list of a level is of that level
level_in_row : (slots : ℕ) (below : List ℕ) (row c : ℕ) (u : Numbered) → c < 4 → level_of u.event < 4 → is_in (list_of slots below) (4 * row + c) u ≡ true → level_of u.event ≡ c
level_in_row slots below row c u lt level e =
    let same : list_of slots below u ≡ 4 * row + c = eqb_is (list_of slots below u) (4 * row + c) e in
    ⊎_elim
    (λ parked. let p = list_if_parked slots below u parked in omega arith)
    (λ main. let p = list_if_not slots below u main in omega arith)
    (cases_lt u.number (below_at below (level_of u.event)))

-- of the events that pass each one counts, or none
module _ (p q : Numbered → Bool) where
  one_of : (b r : Bool) (n m : ℕ) → (b ≡ true → r ≡ true) → n ≡ m → cond b (cond r 1 0 + n) n ≡ cond b (suc m) m
  one_of true true n m all e = omega arith
  one_of true false n m all e = absurd (false≢true (all refl))
  one_of false r n m all e = e

  counted_cons : (b : Bool) (w : Numbered) (ws : List Numbered) → count_by p (cond b (w ∷ ws) ws) ≡ cond b (cond (p w) 1 0 + count_by p ws) (count_by p ws)
  counted_cons true w ws = sum_by-cons (λ u. cond (p u) 1 0) w ws
  counted_cons false w ws = refl

  length_cons : (b : Bool) (w : Numbered) (ws : List Numbered) → length (cond b (w ∷ ws) ws) ≡ cond b (suc (length ws)) (length ws)
  length_cons true w ws = refl
  length_cons false w ws = refl

  all_counted : (ws : List Numbered) → All (λ (u : Numbered). q u ≡ true → p u ≡ true) ws → count_by p (filter q ws) ≡ length (filter q ws)
  all_counted [] all = refl
  all_counted (w ∷ ws) all =
      counted_cons (q w) w (filter q ws)
      ∙ (one_of (q w) (p w) (count_by p (filter q ws)) (length (filter q ws)) (All-head (λ (u : Numbered). q u ≡ true → p u ≡ true) w ws all) (all_counted ws (All-tail (λ (u : Numbered). q u ≡ true → p u ≡ true) w ws all))
      ∙ sym (length_cons (q w) w (filter q ws)))

  none_of : (b r : Bool) (n : ℕ) → (b ≡ true → r ≡ false) → n ≡ 0 → cond b (cond r 1 0 + n) n ≡ 0
  none_of true true n all e = absurd (false≢true (sym (all refl)))
  none_of true false n all e = omega arith
  none_of false r n all e = e

  none_counted : (ws : List Numbered) → All (λ (u : Numbered). q u ≡ true → p u ≡ false) ws → count_by p (filter q ws) ≡ 0
  none_counted [] all = refl
  none_counted (w ∷ ws) all =
      counted_cons (q w) w (filter q ws)
      ∙ none_of (q w) (p w) (count_by p (filter q ws)) (All-head (λ (u : Numbered). q u ≡ true → p u ≡ false) w ws all) (none_counted ws (All-tail (λ (u : Numbered). q u ≡ true → p u ≡ false) w ws all))

module _ (v : Parted) (waits : AreWaits v.waits) (c : ℕ) (lt : c < 4) where
  its_list : (row : ℕ) → count_by (is_at c) (list_in v (4 * row + c)) ≡ length (list_in v (4 * row + c))
  its_list row =
      all_counted (is_at c) (is_in (list_of v.waits.slots v.below) (4 * row + c)) v.waits.waiting
      (λ k d h e. let u : Numbered = get_or v.waits.waiting k d in eq-eqb (level_of u.event) c (level_in_row v.waits.slots v.below row c u lt (waits.levels k d h) e))

  other_list : (row m : ℕ) → m < 4 → m ≢ c → count_by (is_at c) (list_in v (4 * row + m)) ≡ 0
  other_list row m less differs =
      none_counted (is_at c) (is_in (list_of v.waits.slots v.below) (4 * row + m)) v.waits.waiting
      (λ k d h e. let u : Numbered = get_or v.waits.waiting k d in ne_eqb (level_of u.event) c (λ same. differs (sym (level_in_row v.waits.slots v.below row m u less (waits.levels k d h) e) ∙ same)))

  -- the events of the level in the first lists, so many
  abbrev pub counted : ℕ → ℕ
  counted n = count_by (is_at c) (parts_of v n)

  one_list : (n : ℕ) → counted (n + 1) ≡ counted n + count_by (is_at c) (list_in v n)
  one_list n = ap (count_by (is_at c)) (parts_more v n) ∙ sum_by-append (λ u. cond (is_at c u) 1 0) (parts_of v n) (list_in v n)

  -- the lists of a row before that of the level have none
  before_list : (row m : ℕ) → m ≤ c → counted (4 * row + m) ≡ counted (4 * row)
  before_list row zero le = let e : 4 * row + 0 ≡ 4 * row = omega arith in ap counted e
  before_list row (suc m) le =
      let e : 4 * row + suc m ≡ 4 * row + m + 1 = omega arith in
      let rest = before_list row m (omega arith) in
      let here = other_list row m (omega arith) (omega arith) in
      let more = one_list (4 * row + m) in
      ap counted e ∙ omega arith

  -- nor do those behind it
  behind_list : (row m : ℕ) → c + 1 + m ≤ 4 → counted (4 * row + (c + 1 + m)) ≡ counted (4 * row) + length (list_in v (4 * row + c))
  behind_list row zero le =
      let e : 4 * row + (c + 1 + 0) ≡ 4 * row + c + 1 = omega arith in
      let rest = before_list row c (omega arith) in
      let here = its_list row in
      let more = one_list (4 * row + c) in
      ap counted e ∙ omega arith
  behind_list row (suc m) le =
      let e : 4 * row + (c + 1 + suc m) ≡ 4 * row + (c + 1 + m) + 1 = omega arith in
      let rest = behind_list row m (omega arith) in
      let here = other_list row (c + 1 + m) (omega arith) (omega arith) in
      let more = one_list (4 * row + (c + 1 + m)) in
      ap counted e ∙ omega arith

  -- one row more
  pub row_counted : (row : ℕ) → counted (4 * (row + 1)) ≡ counted (4 * row) + length (list_in v (4 * row + c))
  row_counted row =
      let e : 4 * (row + 1) ≡ 4 * row + (c + 1 + (3 - c)) = omega arith in
      ap counted e ∙ behind_list row (3 - c) (omega arith)

  -- with those of the next list, no more than what waits
  pub row_fits : (row : ℕ) → row < v.waits.slots + 1 → counted (4 * row) + length (list_in v (4 * row + c)) ≤ length v.waits.waiting
  row_fits row less =
      let within : 4 * row + c < list_count v.waits.slots = omega arith in
      let fit = parts_fit v (4 * row + c) waits within in
      let few = count_by-le-length (is_at c) (parts_of v (4 * row + c)) in
      let same = before_list row c (omega arith) in
      omega arith

  -- all rows have what waits
  pub all_counted_rows : counted (4 * (v.waits.slots + 1)) ≡ count_by (is_at c) v.waits.waiting
  all_counted_rows = all_sum (λ u. cond (is_at c u) 1 0) v waits
