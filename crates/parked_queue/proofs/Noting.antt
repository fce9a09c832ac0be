-- The numbers of the first events that are set aside, as a list changes.
use Rattle.std.proofs.Common.{◌≡◌, ◌≢◌, ℕ, ◌<◌, List, [], set, length, slice_get, ◌⊎◌, ⊎_elim, sym, ap, ◌∙◌, arith}
use Rattle.std.proofs.lemmas.Bool.{cases_eq}
use Rattle.std.proofs.lemmas.List.{length-set, get_or-set_same, get_or-set_other}
use Rattle.evt_types.specs.declared.event.Numbered.{Numbered}
use Rattle.parked_queue.specs.Heads.{AreHeads, no_head, number_at, number_of, row_at}
use Rattle.parked_queue.specs.Lists.{Lists, list_at, with_list}
use Rattle.parked_queue.specs.Parted.{list_of_slot}

module _ (l : Lists) (slots : ℕ) (rows : List (List ℕ)) (are : AreHeads l slots rows) where
  other_list : (k j : ℕ) (xs : List Numbered) → j ≢ k → list_at (with_list l k xs) j ≡ list_at l j
  other_list k j xs differs = get_or-set_other l.lists k j xs [] differs

  -- a level's own list changes
  pub heads_own : (k : ℕ) (xs : List Numbered) → k < 4 → AreHeads (with_list l k xs) slots rows
  heads_own k xs own =
      record {
        four = are.four;
        long = are.long;
        first = λ c s lt less. are.first c s lt less ∙ ap (λ us. number_of (slice_get us 0)) (sym (other_list k (list_of_slot s c) xs (λ e. omega arith)));
      }

  -- a level's own list or the slot's changes, and the slot's number is noted
  module _ (c s k : ℕ) (xs : List Numbered) (row : List ℕ) (lt : c < 4) (less : s < slots) (list : (k < 4) ⊎ (k ≡ list_of_slot s c)) (noted : row ≡ set (row_at rows c) s (number_of (slice_get (list_at (with_list l k xs) (list_of_slot s c)) 0))) where
    abbrev now : Lists
    now = with_list l k xs

    abbrev head : ℕ → ℕ → ℕ
    head t d = number_of (slice_get (list_at now (list_of_slot t d)) 0)

    others : (t d : ℕ) → list_of_slot t d ≢ list_of_slot s c → number_of (slice_get (list_at l (list_of_slot t d)) 0) ≡ head t d
    others t d differs =
        ap (λ us. number_of (slice_get us 0))
        (sym (other_list k (list_of_slot t d) xs (λ e. ⊎_elim (λ own. omega arith) (λ this. differs (e ∙ this)) list)))

    row_here : row_at (set rows c row) c ≡ row
    row_here = get_or-set_same rows c row [] (let four = are.four in omega arith)

    row_other : (d : ℕ) → d ≢ c → row_at (set rows c row) d ≡ row_at rows d
    row_other d differs = get_or-set_other rows c d row [] differs

    long_here : length row ≡ slots
    long_here = ap length noted ∙ (length-set (row_at rows c) s (head s c) ∙ are.long c lt)

    number_here : (t : ℕ) → t < slots → number_at row t ≡ head t c
    number_here t within =
        ap (λ (r : List ℕ). number_at r t) noted
        ∙ ⊎_elim
        (λ same.
        ap (number_at (set (row_at rows c) s (head s c))) same
        ∙ (get_or-set_same (row_at rows c) s (head s c) no_head (let long = are.long c lt in omega arith) ∙ ap (λ i. head i c) (sym same)))
        (λ differs. get_or-set_other (row_at rows c) s t (head s c) no_head differs ∙ (are.first c t lt within ∙ others t c (λ e. differs (omega arith))))
        (cases_eq t s)

    pub heads_noted : AreHeads now slots (set rows c row)
    heads_noted =
        record {
          four = length-set rows c row ∙ are.four;
          long = λ d below. ⊎_elim (λ same. ap (λ i. length (row_at (set rows c row) i)) same ∙ (ap length row_here ∙ long_here)) (λ differs. ap length (row_other d differs) ∙ are.long d below) (cases_eq d c);
          first =
              λ d t below within.
              ⊎_elim
              (λ same. ap (λ i. number_at (row_at (set rows c row) i) t) same ∙ (ap (λ (r : List ℕ). number_at r t) row_here ∙ (number_here t within ∙ ap (λ i. head t i) (sym same))))
              (λ differs. ap (λ (r : List ℕ). number_at r t) (row_other d differs) ∙ (are.first d t below within ∙ others t d (λ e. differs (omega arith))))
              (cases_eq d c);
        }
